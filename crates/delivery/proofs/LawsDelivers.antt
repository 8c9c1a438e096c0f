-- By what `Delivers` says and no more: who does not keep a frame, and that two lists that it allows say the same at each place.
use mathlib.Core.Path.{◌≡◌, refl, sym, ap, ◌∙◌, subst}
use mathlib.Core.Bool.{Bool, true, false, false≢true}
use mathlib.Core.List.{List, [], ◌∷◌, head-eq_of_cons-eq}
use mathlib.Core.Logic.{◌≢◌}
use Prim.Native.Nat.{ℕ, ◌/◌, ◌%◌, ◌^◌, ◌≤◌, ◌<◌}
use native.Mathlib.Decide.{dec_lt}
use native.Mathlib.Omega.{arith}
use lib.Dec.{eqb}
use borrow.Author.Tests.{eqb-true, eqb-false}
use lib.ListN.{length}
use Rattle.readings.specs.declared.position.Position.{Position}
use Rattle.readings.specs.Positions.{place_of, address_of, position_of}
use Rattle.readings.specs.Routes.{Named, to_own, to_all, to_group, Keeps}
use Rattle.readings.proofs.LawsPositions.{address-back, addresses-differ, global-is-none, not_none}
use Rattle.delivery.specs.Hands.{Arrival}
use Rattle.delivery.specs.Delivery.{comes_to, Delivers}
use Rattle.delivery.proofs.LawsRoutesAt.{at_place}

only_one : (l : List Bool) → length l ≡ 1 → (k : Bool) × (l ≡ k ∷ [])
only_one [] e = absurd (omega arith)
only_one (k ∷ []) e = (k, refl)
only_one (k ∷ j ∷ l) e = absurd (omega arith)

-- ---- at one of the other vehicles
module _ (n number : ℕ) (q p : Position) (most : place_of p ≤ n) (other : p ≢ q) where
  pub not-kept : (arrivals : List Arrival) → Delivers n number q arrivals → (Keeps p number → ⊥) → comes_to (place_of p) arrivals ≡ false ∷ []
  not-kept arrivals d h = go (only_one _ (d.every_other_once p most other))
    where
      go : (k : Bool) × (comes_to (place_of p) arrivals ≡ k ∷ []) → comes_to (place_of p) arrivals ≡ false ∷ []
      go (true, e) = absurd (h ((d.kept_exactly p most other).0 e))
      go (false, e) = e

  same-there : (a b : List Arrival) → Delivers n number q a → Delivers n number q b → comes_to (place_of p) a ≡ comes_to (place_of p) b
  same-there a b d e = go (only_one _ (d.every_other_once p most other))
    where
      go : (k : Bool) × (comes_to (place_of p) a ≡ k ∷ []) → comes_to (place_of p) a ≡ comes_to (place_of p) b
      go (true, t) = t ∙ sym ((e.kept_exactly p most other).1 ((d.kept_exactly p most other).0 t))
      go (false, t) = t ∙ sym (not-kept b e (λ (k : Keeps p number). false≢true (head-eq_of_cons-eq (sym t ∙ (d.kept_exactly p most other).1 k))))

-- ---- at every place
pub same-everywhere : (n number : ℕ) (q : Position) (a b : List Arrival) → n ≤ 5 → Delivers n number q a → Delivers n number q b → (place : ℕ) → comes_to place a ≡ comes_to place b
same-everywhere n number q a b trailers d e place = go (dec_lt n place) (eqb place (place_of q)) refl
  where
    go : Dec (n < place) → (t : Bool) → eqb place (place_of q) ≡ t → comes_to place a ≡ comes_to place b
    go (yes l) t h = d.nobody_else place l ∙ sym (e.nobody_else place l)
    go (no l) true h = ap (λ (k : ℕ). comes_to k a) (eqb-true _ _ h) ∙ d.never_returns ∙ sym e.never_returns ∙ ap (λ (k : ℕ). comes_to k b) (sym (eqb-true _ _ h))
    go (no l) false h =
        let p = at_place place (omega arith) in
        let apart : p.0 ≢ q = λ (same : p.0 ≡ q). eqb-false _ _ h (sym p.1 ∙ ap place_of same) in
        subst (λ (k : ℕ). comes_to k a ≡ comes_to k b) p.1 (same-there n number q p.0 (rw p.1 (omega arith)) apart a b d e)

-- ---- a frame that names one vehicle names no other
pub names-no-other : (p r : Position) (number : ℕ) → number / 2 ^ 16 % 2 ^ 8 < 240 → number / 2 ^ 8 % 2 ^ 8 ≡ address_of r → p ≢ r → Named p number → ⊥
names-no-other p r number h named apart (to_own l e) = apart (addresses-differ p r (sym e ∙ named))
names-no-other p r number h named apart (to_all l e) = not_none r (sym global-is-none ∙ ap position_of (sym e ∙ named) ∙ address-back r)
names-no-other p r number h named apart (to_group l) = omega arith
