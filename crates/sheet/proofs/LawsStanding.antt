-- The readings of a mask in the order of where they stand: the ranked ones by their counts, and the excluded ones behind them.
use mathlib.Core.Path.{◌≡◌, refl, sym, ap₂, ◌∙◌}
use mathlib.Core.Bool.{Bool, true, false, not}
use mathlib.Core.List.{List, ◌++◌}
use Prim.Native.Nat.{ℕ, ◌+◌, ◌*◌, ◌^◌, ◌<◌}
use native.Mathlib.Omega.{arith}
use borrow.Author.Tests.{ne_eqb}
use lib.Dec.{eqb}
use Rattle.identifiers.specs.Choice.{both}
use Rattle.identifiers.proofs.LawsChoice.{pick_true, pick-false, both_false, true-after, stop}
use Rattle.order.specs.Order.{keep, by_key}
use Rattle.order.proofs.LawsEach.{each_all}
use Rattle.order.proofs.LawsKeep.{by-suc, by-each, by-enough}
use Rattle.order.proofs.LawsPlaces.{places_same, keep-places}
use Rattle.sheet.specs.Readings.{readings_in, reading_of}
use Rattle.sheet.specs.Ranked.{basis_full, asks, ranks, excludes, places_of, ranked, excluded}
use Rattle.sheet.specs.Standing.{standing_of}
use Rattle.sheet.specs.declared.reading.CountReading.{CountReading}
use Rattle.sheet.proofs.LawsStands.{Bytes}

pub full-stands : (r : CountReading) → basis_full r ≡ true → standing_of r ≡ r.count
unfolding standing_of
full-stands r e = pick_true _ _ e

pub other-stands : (r : CountReading) → basis_full r ≡ false → standing_of r ≡ 65536
unfolding standing_of
other-stands r e = pick-false _ _ e

pub count_small : (s : List ℕ) → Bytes s → (k : ℕ) → (reading_of s k).count < 65536
unfolding reading_of
count_small s b k = omega (arith, b (17 * k + 15), b (17 * k + 15 + 1))

-- where a reading of the mask stands, in the words of the page
ranked-at : (mask c : ℕ) (r : CountReading) → c < 65536 → both (asks mask r) (eqb (standing_of r) c) ≡ both (ranks mask r) (eqb r.count c)
unfolding ranks
ranked-at mask c r l = by-basis (basis_full r) refl
  where
    by-basis : (f : Bool) → basis_full r ≡ f
        → both (asks mask r) (eqb (standing_of r) c) ≡ both (both (asks mask r) (basis_full r)) (eqb r.count c)
    by-basis true e = rw (full-stands r e, e, true-after (asks mask r))
    by-basis false e = rw (other-stands r e, e, ne_eqb 65536 c (λ q. omega arith), both_false (asks mask r)) (stop _ refl)

excluded-at : (mask : ℕ) (r : CountReading) → r.count < 65536 → both (asks mask r) (eqb (standing_of r) 65536) ≡ excludes mask r
unfolding excludes
excluded-at mask r l = by-basis (basis_full r) refl
  where
    by-basis : (f : Bool) → basis_full r ≡ f
        → both (asks mask r) (eqb (standing_of r) 65536) ≡ both (asks mask r) (not (basis_full r))
    by-basis true e = rw (full-stands r e, e, ne_eqb r.count 65536 (λ q. omega arith))
    by-basis false e = rw (other-stands r e, e)

standing-small : (r : CountReading) → r.count < 65536 → standing_of r < 65537
standing-small r l = by-basis (basis_full r) refl
  where
    by-basis : (f : Bool) → basis_full r ≡ f → standing_of r < 65537
    by-basis true e = omega (arith, full-stands r e)
    by-basis false e = omega (arith, other-stands r e)

module _ (s : List ℕ) (mask : ℕ) (small : (k : ℕ) → (reading_of s k).count < 65536) where
  asked : ℕ → Bool
  asked k = asks mask (reading_of s k)

  standing : ℕ → ℕ
  standing k = standing_of (reading_of s k)

  -- those that stand at a count are the ranked ones of that count, and those behind every count the excluded ones
  ranked-half : by_key standing 65536 (places_of (asks mask) s) ≡ ranked s mask
  unfolding asked standing ranked
  ranked-half =
      by-each standing (λ k. (reading_of s k).count) 65536 (places_of (asks mask) s) (places_of (ranks mask) s)
      (λ c l. keep-places asked (λ k. eqb (standing k) c) (readings_in s)
      ∙ places_same _ _ (readings_in s) (λ k. ranked-at mask c (reading_of s k) l)
      ∙ sym (keep-places (λ k. ranks mask (reading_of s k)) (λ k. eqb (reading_of s k).count c) (readings_in s)))

  excluded-half : keep (λ k. eqb (standing k) 65536) (places_of (asks mask) s) ≡ excluded s mask
  unfolding asked standing excluded
  excluded-half = keep-places asked (λ k. eqb (standing k) 65536) (readings_in s) ∙ places_same _ _ (readings_in s) (λ k. excluded-at mask (reading_of s k) (small k))

  pub standing-order : by_key (λ k. standing_of (reading_of s k)) (2 ^ 32) (places_of (asks mask) s) ≡ ranked s mask ++ excluded s mask
  unfolding standing
  standing-order =
      by-enough standing 65537 (2 ^ 32) (places_of (asks mask) s) (each_all (λ k. standing-small (reading_of s k) (small k)) (places_of (asks mask) s)) (omega arith)
      ∙ by-suc standing 65536 (places_of (asks mask) s)
      ∙ ap₂ ◌++◌ ranked-half excluded-half
