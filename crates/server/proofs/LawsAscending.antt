-- A loop that asks of each two that stand side by side whether they ascend, and joins the answers.
use mathlib.Core.Path.{◌≡◌, refl, sym, ap, ap₂, ◌∙◌}
use mathlib.Core.Bool.{Bool, true, false, ◌&&◌}
use mathlib.Core.List.{List}
use Prim.Native.Nat.{ℕ, ◌+◌, ◌-◌, ◌≤◌, ◌<◌}
use native.Mathlib.Omega.{arith}
use lib.ListN.{length, get_or}
use Rattle.std.specs.Bool.{MatchBool}
use Rattle.std.specs.List.{AllAdjacentBelow}
use Rattle.std.proofs.lemmas.List.{get_or_default}
use Rattle.std.proofs.lemmas.List.Sorted.{all_adjacent_more}

-- the answer of the first n: all ascend, or two of the list do not
abbrev pub Answer : {X : Type 0} → (X → X → Bool) → List X → ℕ → Bool → Type 0
Answer {X} lt xs n sound = MatchBool sound (AllAdjacentBelow (λ x y. true ≡ lt x y) xs n) ((k : ℕ) × (k + 1 < length xs) × ((d : X) → false ≡ lt (get_or xs k d) (get_or xs (k + 1) d)))

module _ {X : Type 0} (lt : X → X → Bool) (xs : List X) where
  pub answer-none : Answer lt xs 1 true
  answer-none k d l = absurd (omega arith)

  pub answer-more : (i : ℕ) (sound : Bool) (x y : X) → 1 ≤ i → i < length xs → x ≡ get_or xs (i - 1) x → y ≡ get_or xs i y → Answer lt xs i sound → Answer lt xs (i + 1) (sound && lt x y)
  answer-more i false x y a l p q h = h
  answer-more i true x y a l p q h = by (lt x y) refl
    where
      same : (d : X) → lt x y ≡ lt (get_or xs (i - 1) d) (get_or xs i d)
      same d = ap₂ lt (p ∙ get_or_default xs (i - 1) x d (omega arith)) (q ∙ get_or_default xs i y d l)

      by : (b : Bool) → lt x y ≡ b → Answer lt xs (i + 1) b
      by true e = all_adjacent_more xs (λ x y. true ≡ lt x y) i (omega arith) h (λ d. sym e ∙ same d)
      by false e =
          let next : i - 1 + 1 ≡ i = omega arith in
          (i - 1, omega arith, λ d. sym e ∙ same d ∙ ap (λ (n : ℕ). lt (get_or xs (i - 1) d) (get_or xs n d)) (sym next))

  pub answer-all : (n : ℕ) (sound : Bool) → length xs ≤ n → Answer lt xs n sound → Answer lt xs (length xs) sound
  answer-all n true l h = λ k d m. h k d (omega arith)
  answer-all n false l h = h
