-- Laws of a number among the first n of a list: what is known of the place at which it is found.
use mathlib.Core.Path.{◌≡◌, refl, sym, ap, ◌∙◌}
use mathlib.Core.Bool.{Bool, true, false, not-eq-not, ◌||◌}
use mathlib.Core.Logic.{⊎_elim}
use mathlib.Core.List.{List}
use Prim.Native.Nat.{ℕ, ◌+◌, ◌<◌}
use native.Mathlib.Nat.{eq-or-lt_of_le}
use native.Mathlib.Omega.{arith}
use borrow.Author.Tests.{ltb-true, ltb-false, eqb-true, eqb-false}
use lib.Dec.{eqb}
use lib.ListN.{get_or}
use Rattle.identifiers.proofs.LawsBelow.{first_found}
use Rattle.server.specs.Places.{place_among, held_among}

pub held_at : (l : List ℕ) (n x : ℕ) → held_among l n x ≡ true → (place_among l n x < n) × (get_or l (place_among l n x) 0 ≡ x)
unfolding held_among place_among
held_at l n x e = (ltb-true _ _ e, eqb-true _ _ ((first_found (λ i. eqb (get_or l i 0) x) n).at (ltb-true _ _ e)))

pub not-held : (l : List ℕ) (n x : ℕ) → held_among l n x ≡ false → (i : ℕ) → i < n → get_or l i 0 ≡ x → ⊥
unfolding held_among place_among
not-held l n x e i h = let f = first_found (λ i. eqb (get_or l i 0) x) n in eqb-false _ _ (f.absent (omega (arith, f.le, ltb-false)) i h)

pub held-nowhere : (l : List ℕ) (n x : ℕ) → ((i : ℕ) → i < n → get_or l i 0 ≡ x → ⊥) → held_among l n x ≡ false
held-nowhere l n x h = not-eq-not.0 (λ q. h (place_among l n x) (held_at l n x q).0 (held_at l n x q).1)

held-somewhere : (l : List ℕ) (n x i : ℕ) → i < n → get_or l i 0 ≡ x → held_among l n x ≡ true
held-somewhere l n x i h q = by (held_among l n x) refl
  where
    by : (b : Bool) → held_among l n x ≡ b → b ≡ true
    by true e = refl
    by false e = absurd (not-held l n x e i h q)

-- a loop that asks each, `held = held | (l[n] == x)`
pub held_none : (l : List ℕ) (x : ℕ) → held_among l 0 x ≡ false
held_none l x = held-nowhere l 0 x (λ i h q. omega arith)

pub held-turn : (l : List ℕ) (n x : ℕ) {held : Bool} → held ≡ held_among l n x → (held || eqb (get_or l n 0) x) ≡ held_among l (n + 1) x
held-turn l n x {held} h = by held (eqb (get_or l n 0) x) (sym h) refl
  where
    by : (a b : Bool) → held_among l n x ≡ a → eqb (get_or l n 0) x ≡ b → (a || b) ≡ held_among l (n + 1) x
    by true b p q = let at = held_at l n x p in sym (held-somewhere l (n + 1) x (place_among l n x) (omega (arith, at.0)) at.1)
    by false true p q = sym (held-somewhere l (n + 1) x n (omega arith) (eqb-true (get_or l n 0) x q))
    by false false p q =
        sym (held-nowhere l (n + 1) x (λ i m e. ⊎_elim (λ (z : i ≡ n). eqb-false (get_or l n 0) x q (ap (λ (k : ℕ). get_or l k 0) (sym z) ∙ e)) (λ (z : i < n). not-held l n x p i z e) (eq-or-lt_of_le (omega arith))))
