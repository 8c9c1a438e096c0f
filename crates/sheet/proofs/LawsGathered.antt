-- Laws of what is gathered for a mask: a turn that finds one of its readings, one that does not, and what was found, put in order.
use mathlib.Core.Path.{◌≡◌, sym, ap, ◌∙◌}
use mathlib.Core.Bool.{true, false, true≢false}
use mathlib.Core.List.{List, [], ◌∷◌, ◌++◌}
use mathlib.Core.Logic.{⊎_elim}
use Prim.Native.Nat.{ℕ, ◌+◌, ◌^◌, ◌≤◌, ◌<◌}
use native.Mathlib.Nat.{eq-or-lt_of_le}
use native.Mathlib.Omega.{arith}
use lib.ListN.{length, take, set}
use lib.Seq.{get_or-set_same, get_or-set_other}
use borrow.Author.Tests.{eq-eqb, ne_eqb}
use Rattle.identifiers.specs.Bytes.{Puts}
use Rattle.identifiers.proofs.LawsBytes.{puts-as, puts_none, puts-byte, puts_whole, turn, turn-none}
use Rattle.identifiers.proofs.LawsChoice.{pick_true, pick-false}
use Rattle.order.specs.Order.{by_key, key_in, places_below, most_places, sorted}
use Rattle.order.proofs.LawsEach.{Each, each-by}
use Rattle.order.proofs.LawsKeep.{sorted-few, by-same-each}
use Rattle.order.proofs.LawsPlaces.{places-none, each-place, places-below, length-places}
use Rattle.sheet.specs.Readings.{readings_in, reading_of}
use Rattle.sheet.specs.Ranked.{asks, places_of, ranked, excluded}
use Rattle.sheet.specs.Standing.{standing_of}
use Rattle.sheet.specs.declared.reading.CountReading.{CountReading}
use Rattle.sheet.proofs.LawsStanding.{standing-order}

-- ---- the test
pub asked : {mask : ℕ} {r q : CountReading} → r ≡ q → r.mask ≡ mask → asks mask q ≡ true
unfolding asks
asked {mask} {r} e h = rw e at (eq-eqb r.mask mask h)

pub not-asked : {mask : ℕ} {r q : CountReading} → r ≡ q → (r.mask ≡ mask → ⊥) → asks mask q ≡ false
unfolding asks
not-asked {mask} {r} e h = rw e at (ne_eqb r.mask mask h)

-- ---- the loop: the readings of the mask below n have their places at the start of b, and keys says where each of them stands
pub record Gathered (s : List ℕ) (mask : ℕ) (a : List ℕ) (n found : ℕ) (b keys : List ℕ) : Type 0 where
  pub places : Puts a 0 (places_below (λ k. asks mask (reading_of s k)) n) found b
  pub keyed : (k : ℕ) → k < n → asks mask (reading_of s k) ≡ true → key_in keys k ≡ standing_of (reading_of s k)

pub gathered_none : (s : List ℕ) (mask : ℕ) (a keys : List ℕ) → Gathered s mask a 0 0 a keys
gathered_none s mask a keys =
    record { places = puts-as (puts_none a 0) (sym (places-none (λ k. asks mask (reading_of s k)))); keyed = λ k l. absurd (omega arith) }

module _ {s : List ℕ} {mask : ℕ} {a : List ℕ} {n found : ℕ} {b keys : List ℕ} (before : Gathered s mask a n found b keys) where
  pub gathered-hit : {x : ℕ} → n < length keys → asks mask (reading_of s n) ≡ true → x ≡ standing_of (reading_of s n)
      → Gathered s mask a (n + 1) (found + 1) (set b found n) (set keys n x)
  gathered-hit {x} l e h =
      record {
        places = turn _ _ before.places (sym (pick_true (n ∷ []) [] e)) (puts-byte b found n);
        keyed = λ k m t.
            ⊎_elim (λ (q : k ≡ n). rw q (get_or-set_same keys n x 0 l ∙ h)) (λ (q : k < n). get_or-set_other keys n k x 0 (λ z. omega arith) ∙ before.keyed k q t)
            (eq-or-lt_of_le (omega arith));
      }

  pub gathered-miss : asks mask (reading_of s n) ≡ false → Gathered s mask a (n + 1) found b keys
  gathered-miss e =
      record {
        places = turn-none _ _ before.places (pick-false (n ∷ []) [] e);
        keyed = λ k m t.
            ⊎_elim (λ (q : k ≡ n). absurd (true≢false (sym t ∙ ap (λ (j : ℕ). asks mask (reading_of s j)) q ∙ e))) (λ (q : k < n). before.keyed k q t)
            (eq-or-lt_of_le (omega arith));
      }

-- ---- what was found, put in order
module _ (s : List ℕ) (mask : ℕ) {a b : List ℕ} {found : ℕ} (places : Puts a 0 (places_of (asks mask) s) found b) where
  pub found-few : found ≤ readings_in s
  found-few = omega (arith, places.ends, length-places (λ k. asks mask (reading_of s k)) (readings_in s))

  module _ (keys : List ℕ) (few : readings_in s ≤ most_places) (room : readings_in s ≤ length a) where
    by-keys : sorted keys (take found b) ≡ by_key (key_in keys) (2 ^ 32) (places_of (asks mask) s)
    by-keys =
        ap (sorted keys) (puts_whole (omega (arith, places.ends, found-few)) places)
        ∙ sorted-few keys (places_of (asks mask) s) (omega (arith, places.ends, found-few))

    pub sorted-below : Each (λ k. k < readings_in s) (sorted keys (take found b))
    sorted-below = rw by-keys (each-by (key_in keys) (2 ^ 32) (places-below (λ k. asks mask (reading_of s k)) (readings_in s)))

    pub sorted-page : ((k : ℕ) → k < readings_in s → asks mask (reading_of s k) ≡ true → key_in keys k ≡ standing_of (reading_of s k))
        → ((k : ℕ) → (reading_of s k).count < 65536) → sorted keys (take found b) ≡ ranked s mask ++ excluded s mask
    sorted-page keyed small =
        let each = each-place (λ k. asks mask (reading_of s k)) (readings_in s) keyed in
        by-keys ∙ by-same-each (key_in keys) (λ k. standing_of (reading_of s k)) (2 ^ 32) (places_of (asks mask) s) each ∙ standing-order s mask small
