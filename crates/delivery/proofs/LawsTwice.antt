-- Whatever stands in a frame, it comes to no vehicle twice, and never back to its sender.
use mathlib.Core.Path.{◌≡◌, refl, ap, ap₂, ◌∙◌}
use mathlib.Core.Bool.{Bool}
use mathlib.Core.List.{List, [], ◌∷◌, ◌++◌}
use mathlib.Core.Logic.{◌⊎◌, inl, inr}
use Prim.Native.Nat.{ℕ, zero, suc, ◌≤◌, ◌<◌}
use native.Mathlib.Decide.{dec_lt}
use native.Mathlib.Omega.{arith}
use lib.ListN.{length, length-append}
use Rattle.readings.specs.declared.position.Position.{Position}
use Rattle.readings.specs.declared.routing.Side.{Side}
use Rattle.readings.specs.declared.routing.Side.TheVariants.{Predecessor, Successor}
use Rattle.readings.specs.Positions.{place_of}
use Rattle.delivery.specs.Hands.{Arrival, handed, to_predecessor, to_successor, delivered}
use Rattle.delivery.specs.Delivery.{comes_to}
use Rattle.delivery.proofs.LawsComes.{comes-cases, comes-else, comes-append}
use Rattle.delivery.proofs.LawsNeighbours.{to-predecessor, to-successor}
use Rattle.delivery.proofs.LawsSides.{next, rest, goes}

-- the first comes to the place and no other does, or at most one of the others
at_most : (place : ℕ) (a : Arrival) (others : List Arrival) → (a.at ≡ place → comes_to place others ≡ []) → length (comes_to place others) ≤ 1 → length (comes_to place (a ∷ others)) ≤ 1
at_most place a others f g = comes-cases (λ l. length l ≤ 1) place a others (λ (e : a.at ≡ place). rw (f e) (omega arith)) (λ e. g)

-- what is said of one list of arrivals, as a relation of two
abbrev None : ℕ → List Arrival → List Arrival → Type 0
None place arrivals any = comes_to place arrivals ≡ []

abbrev Once : ℕ → List Arrival → List Arrival → Type 0
Once place arrivals any = length (comes_to place arrivals) ≤ 1

-- ---- the place lies on the side from which the frame came to a vehicle
abbrev Away : Side → ℕ → ℕ → Type 0
Away Successor at place = at < place
Away Predecessor at place = place < at

away-apart : (side : Side) (at place : ℕ) → Away side at place → at ≡ place → ⊥
away-apart Successor at place l e = omega arith
away-apart Predecessor at place l e = omega arith

away-next : (side : Side) (p place : ℕ) → (suc p ≡ place) ⊎ Away side (suc p) place → Away side (next side p) place
away-next Successor p place (inl e) = omega arith
away-next Successor p place (inr l) = omega arith
away-next Predecessor p place (inl e) = omega arith
away-next Predecessor p place (inr l) = omega arith

module _ (own : ℕ → ℕ) (n number count place : ℕ) where
  -- there it does not come, and elsewhere at most once
  never-away : (hands at : ℕ) (side : Side) → Away side at place → comes_to place (handed own n number count hands at side) ≡ []
  unfolding handed comes_to
  never-away zero at side l = refl
  never-away (suc hands) zero side l = comes-else place _ [] (away-apart side 0 place l)
  never-away (suc hands) (suc p) side l =
      comes-else place _ (rest own n number count hands p side) (away-apart side (suc p) place l)
      ∙ goes own n number count (None place) refl side hands hands p (λ h. never-away hands (next side p) side (away-next side p place (inr l)))

  once : (hands at : ℕ) (side : Side) → length (comes_to place (handed own n number count hands at side)) ≤ 1
  unfolding handed comes_to
  once zero at side = omega arith
  once (suc hands) zero side = at_most place _ [] (λ e. refl) (omega arith)
  once (suc hands) (suc p) side =
      at_most place _ (rest own n number count hands p side)
      (λ (e : suc p ≡ place). goes own n number count (None place) refl side hands hands p (λ h. never-away hands (next side p) side (away-next side p place (inl e))))
      (goes own n number count (Once place) (omega arith) side hands hands p (λ h. once hands (next side p) side))

-- ---- as the vehicle q sends it
module _ (own : ℕ → ℕ) (n number count place hands : ℕ) where
  abbrev ahead : Position → List Bool
  ahead q = comes_to place (to_predecessor own n number count hands (place_of q))

  abbrev behind : Position → List Bool
  behind q = comes_to place (to_successor own n number count hands (place_of q))

  none_ahead : (q : Position) → place_of q ≤ place → ahead q ≡ []
  unfolding comes_to
  none_ahead q l = to-predecessor own n number number count hands hands (None place) refl (place_of q) (λ p (e : place_of q ≡ suc p). never-away own n number count place hands p Successor (omega arith))

  some-ahead : (q : Position) → length (ahead q) ≤ 1
  unfolding comes_to
  some-ahead q = to-predecessor own n number number count hands hands (Once place) (omega arith) (place_of q) (λ p e. once own n number count place hands p Successor)

  none-behind : (q : Position) → place ≤ place_of q → behind q ≡ []
  unfolding comes_to
  none-behind q l = to-successor own n number number count hands hands (None place) refl (place_of q) (λ h. never-away own n number count place hands (suc (place_of q)) Predecessor (omega arith))

  some-behind : (q : Position) → length (behind q) ≤ 1
  unfolding comes_to
  some-behind q = to-successor own n number number count hands hands (Once place) (omega arith) (place_of q) (λ h. once own n number count place hands (suc (place_of q)) Predecessor)

  both-sides : (q : Position) → comes_to place (delivered own n number count hands q) ≡ ahead q ++ behind q
  unfolding delivered
  both-sides q = comes-append place (to_predecessor own n number count hands (place_of q)) (to_successor own n number count hands (place_of q))

  pub at-most-once : (q : Position) → length (comes_to place (delivered own n number count hands q)) ≤ 1
  at-most-once q = rw (both-sides q) (go (dec_lt place (place_of q)))
    where
      go : Dec (place < place_of q) → length (ahead q ++ behind q) ≤ 1
      go (yes l) = omega (arith, length-append (ahead q) (behind q), ap length (none-behind q (omega arith)), some-ahead q)
      go (no l) = rw (none_ahead q (omega arith)) (some-behind q)

  pub not-to-the-sender : (q : Position) → place_of q ≡ place → comes_to place (delivered own n number count hands q) ≡ []
  not-to-the-sender q e = both-sides q ∙ ap₂ ◌++◌ (none_ahead q (omega arith)) (none-behind q (omega arith))
