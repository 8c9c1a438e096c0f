-- Laws of the page of one mask: which test each of its two halves passes, and that its properties fix both.
use mathlib.Core.Path.{◌≡◌, refl, sym, ◌∙◌}
use mathlib.Core.Bool.{Bool, true, false, not, true≢false, false≢true}
use mathlib.Core.List.{List, ◌++◌}
use mathlib.Core.Logic.{⊎_elim, inr}
use Prim.Native.Nat.{ℕ, ◌+◌, ◌≤◌, ◌<◌}
use native.Mathlib.Nat.{eq-zero-or-pos}
use native.Mathlib.Omega.{arith}
use borrow.Author.Tests.{eq-eqb, eqb-true, ltb-true, ltb-false}
use lib.Bits.{and_zero_l}
use lib.Dec.{eqb, ltb}
use Rattle.identifiers.specs.Choice.{pick, both}
use Rattle.identifiers.proofs.LawsChoice.{pick_true, pick-false, both_true, so}
use Rattle.order.specs.Ranks.{times, Ranks}
use Rattle.order.proofs.LawsTimes.{times-append}
use Rattle.sheet.specs.Readings.{readings_in, reading_of}
use Rattle.sheet.specs.Ranked.{is_full, basis_full, asks, ranks, excludes}
use Rattle.sheet.specs.Pages.{mask_at, count_at, basis_at, Page}
use Rattle.sheet.specs.declared.basis.Basis.{Basis}
use Rattle.sheet.specs.declared.basis.Basis.TheVariants.{None, Full, Part}
use Rattle.sheet.proofs.LawsBasis.{basis-exactly}

-- ---- the tests
full_is : (b : Basis) → is_full b ≡ true → b ≡ Full
unfolding is_full
full_is None e = absurd (false≢true e)
full_is Full e = refl
full_is Part e = absurd (false≢true e)

is-full : (b : Basis) → b ≡ Full → is_full b ≡ true
unfolding is_full
is-full b e = rw e

one_of : (a b : Bool) → pick (both a b) 1 0 + pick (both a (not b)) 1 0 ≡ pick a 1 0
unfolding pick both
one_of true true = refl
one_of true false = refl
one_of false b = refl

unless-ranked : (a b : Bool) → both a b ≡ false → both a (not b) ≡ a
unfolding both
unless-ranked true true e = sym e
unless-ranked true false e = refl
unless-ranked false b e = refl

module _ (s : List ℕ) (mask k : ℕ) where
  pub ranks-is : ranks mask (reading_of s k) ≡ true → (mask_at s k ≡ mask) × (basis_at s k ≡ Full)
  unfolding ranks asks
  ranks-is e = let h = both_true _ _ e in (eqb-true _ _ h.0, full_is _ h.1)

  pub is-ranks : mask_at s k ≡ mask → basis_at s k ≡ Full → ranks mask (reading_of s k) ≡ true
  unfolding ranks asks
  is-ranks e f = sym (so (eq-eqb _ _ e) (sym (is-full _ f)))

  -- a reading of the mask is in one half of the page, another reading in none
  pub in-one-half : pick (ranks mask (reading_of s k)) 1 0 + pick (excludes mask (reading_of s k)) 1 0 ≡ pick (eqb (mask_at s k) mask) 1 0
  unfolding ranks excludes asks
  in-one-half = one_of (eqb (mask_at s k) mask) (basis_full (reading_of s k))

pub was-picked : (b : Bool) → 0 < pick b 1 0 → b ≡ true
was-picked true h = refl
was-picked false h = absurd (omega (arith, pick-false {A = ℕ} {t = false} 1 0 refl))

at_most_one : (b : Bool) → pick b 1 0 ≤ 1
unfolding pick
at_most_one true = omega arith
at_most_one false = omega arith

-- ---- any page with these properties
module _ (s : List ℕ) (mask : ℕ) {above below : List ℕ} (p : Page s mask above below) where
  -- each half has exactly what passes its test
  halves : (k : ℕ) → k < readings_in s → (times k above ≡ pick (ranks mask (reading_of s k)) 1 0) × (times k below ≡ pick (excludes mask (reading_of s k)) 1 0)
  halves k l = by-test (ranks mask (reading_of s k)) refl
    where
      by-test : (b : Bool) → ranks mask (reading_of s k) ≡ b → (times k above ≡ pick (ranks mask (reading_of s k)) 1 0) × (times k below ≡ pick (excludes mask (reading_of s k)) 1 0)
      by-test true e =
          let there : 0 < times k above = (p.ranked_exactly k l).1 (ranks-is s mask k e) in
          let one = pick_true {A = ℕ} 1 0 e in
          let most = at_most_one (eqb (mask_at s k) mask) in
          let all = times-append k above below in
          let is = p.appears_once k l in
          let split = in-one-half s mask k in (omega arith, omega arith)
      by-test false e =
          let none : times k above ≡ 0 =
          ⊎_elim (λ (h : times k above ≡ 0). h) (λ (h : 0 < times k above). let w = (p.ranked_exactly k l).0 h in absurd (true≢false (sym (is-ranks s mask k w.0 w.1) ∙ e))) (eq-zero-or-pos (times k above)) in
          let zero = pick-false {A = ℕ} 1 0 e in
          let all = times-append k above below in
          let is = p.appears_once k l in
          let split = in-one-half s mask k in (omega arith, omega arith)

  past : (k : ℕ) → readings_in s ≤ k → (times k above ≡ 0) × (times k below ≡ 0)
  past k l = let all = times-append k above below in let is = p.nothing_else k l in (omega arith, omega arith)

  pub above-ranks : Ranks (λ k. ranks mask (reading_of s k)) (count_at s) (readings_in s) above
  above-ranks = record { each_once = λ k l. (halves k l).0; nothing_else = λ k l. (past k l).0; in_order = p.lowest_first }

  pub below-ranks : Ranks (λ k. excludes mask (reading_of s k)) (λ k. 0) (readings_in s) below
  below-ranks = record { each_once = λ k l. (halves k l).1; nothing_else = λ k l. (past k l).1; in_order = λ i j h. inr (refl, p.sheet_order i j h) }

  -- what stands on it is a reading of the sheet, and of the mask
  pub on-the-sheet : (k : ℕ) → 0 < times k (above ++ below) → k < readings_in s
  on-the-sheet k h = by-test (ltb k (readings_in s)) refl
    where
      by-test : (b : Bool) → ltb k (readings_in s) ≡ b → k < readings_in s
      by-test true e = ltb-true _ _ e
      by-test false e = absurd (omega (arith, p.nothing_else k (ltb-false _ _ e)))

  pub asked-at : (k : ℕ) → k < readings_in s → 0 < times k (above ++ below) → mask_at s k ≡ mask
  asked-at k l h = eqb-true _ _ (was-picked _ (rw (p.appears_once k l) at h))

-- ---- mask 00
pub none-ranked : (s : List ℕ) (k : ℕ) → ranks 0 (reading_of s k) ≡ false
none-ranked s k = by-test (ranks 0 (reading_of s k)) refl
  where
    by-test : (b : Bool) → ranks 0 (reading_of s k) ≡ b → b ≡ false
    by-test true e =
        let h = ranks-is s 0 k e in
        absurd (((basis-exactly (mask_at s k) (reading_of s k).available Full).0 h.1).0 (rw h.0 (and_zero_l (reading_of s k).available)))
    by-test false e = refl

pub all-excluded : (s : List ℕ) (k : ℕ) → excludes 0 (reading_of s k) ≡ asks 0 (reading_of s k)
unfolding ranks excludes
all-excluded s k = unless-ranked (asks 0 (reading_of s k)) (basis_full (reading_of s k)) (none-ranked s k)
