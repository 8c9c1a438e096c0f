-- Sheets joined and parted: an accepted sheet behind another is accepted, and so is every run of whole readings of an accepted sheet.
use Rattle.std.specs.Prelude.{Ok}
use mathlib.Core.Path.{◌≡◌, refl, sym, ap, ◌∙◌}
use mathlib.Core.Bool.{Bool, true, false}
use mathlib.Core.List.{List, ◌++◌}
use Prim.Native.Nat.{ℕ, zero, suc, ◌+◌, ◌-◌, ◌*◌, ◌≤◌, ◌<◌}
use native.Mathlib.Omega.{arith}
use borrow.Author.Tests.{ltb-true, ltb-false}
use lib.Dec.{ltb}
use lib.ListN.{length, get_or, take, drop, length-append, length-drop, drop_of_length-le}
use lib.Seq.{length-take-le, take_all, take-append_seam, get_or-append-add, get_or-take, get_or-drop}
use Rattle.sheet.specs.Fields.{sound_position, sound_response}
use Rattle.sheet.specs.Sheets.{sheet_read}
use Rattle.sheet.specs.Readings.{readings_in}
use Rattle.sheet.proofs.LawsFields.{Head}
use Rattle.sheet.proofs.LawsSheets.{accepted-short}
use Rattle.sheet.proofs.LawsReadings.{Whole, accepted-whole, accepted-length, whole-accepted}

-- ---- the same 17 bytes elsewhere are a whole reading too
module _ (s t : List ℕ) (at to : ℕ) (same : (i : ℕ) → i < 17 → get_or t (to + i) 0 ≡ get_or s (at + i) 0) where
  byte : (i p q : ℕ) → p ≡ to + i → q ≡ at + i → i < 17 → get_or t p 0 ≡ get_or s q 0
  byte i p q e d l = ap (λ (k : ℕ). get_or t k 0) e ∙ same i l ∙ ap (λ (k : ℕ). get_or s k 0) (sym d)

  head-moves : (i tag size : ℕ) → i < 15 → Head s (at + i) tag size → Head t (to + i) tag size
  head-moves i tag size l h =
      record {
        tagged = byte i (to + i) (at + i) (omega arith) (omega arith) (omega arith) ∙ h.tagged;
        high = byte (i + 1) (to + i + 1) (at + i + 1) (omega arith) (omega arith) (omega arith) ∙ h.high;
        low = byte (i + 2) (to + i + 2) (at + i + 2) (omega arith) (omega arith) (omega arith) ∙ h.low;
      }

  response-moves : sound_response t (to + 8 + 3) ≡ sound_response s (at + 8 + 3)
  unfolding sound_response
  response-moves =
      rw (
        byte 11 (to + 8 + 3) (at + 8 + 3) (omega arith) (omega arith) (omega arith),
        byte 12 (to + 8 + 3 + 1) (at + 8 + 3 + 1) (omega arith) (omega arith) (omega arith),
        byte 13 (to + 8 + 3 + 2) (at + 8 + 3 + 2) (omega arith) (omega arith) (omega arith),
        byte 14 (to + 8 + 3 + 3) (at + 8 + 3 + 3) (omega arith) (omega arith) (omega arith),
      )

  whole-moves : to + 17 ≤ length t → Whole s at → Whole t to
  whole-moves l w =
      let from : at + 0 ≡ at = omega arith in
      let onto : to + 0 ≡ to = omega arith in
      record {
        room = l;
        first = rw onto at (head-moves 0 1 1 (omega arith) (rw from w.first));
        second = head-moves 4 2 1 (omega arith) w.second;
        third = head-moves 8 3 6 (omega arith) w.third;
        position = ap sound_position (byte 3 (to + 3) (at + 3) (omega arith) (omega arith) (omega arith)) ∙ w.position;
        response = response-moves ∙ w.response;
      }

-- ---- a run of whole readings
pub accepted-part : (s : List ℕ) (k n : ℕ) → sheet_read s ≡ Ok tt → 17 * (k + n) ≤ length s → sheet_read (take (17 * n) (drop (17 * k) s)) ≡ Ok tt
unfolding readings_in
accepted-part s k n e l =
    let whole = accepted-length s e in
    let part = take (17 * n) (drop (17 * k) s) in
    let long : length part ≡ 17 * n = length-take-le (17 * n) (drop (17 * k) s) (omega (arith, length-drop (17 * k) s)) in
    whole-accepted part n long (omega (arith, accepted-short s e))
    (λ j h. whole-moves s part (17 * (k + j)) (17 * j) (same j h) (omega arith) (accepted-whole s (k + j) e (omega arith)))
  where
    same : (j : ℕ) → j < n → (i : ℕ) → i < 17 → get_or (take (17 * n) (drop (17 * k) s)) (17 * j + i) 0 ≡ get_or s (17 * (k + j) + i) 0
    same j h i m =
        get_or-take (17 * n) (drop (17 * k) s) (17 * j + i) 0 (omega arith)
        ∙ get_or-drop (17 * k) s (17 * j + i) 0
        ∙ ap (λ (p : ℕ). get_or s p 0) (omega arith)

-- the first reading, and those behind it
pub accepted-first : (s : List ℕ) → sheet_read s ≡ Ok tt → 0 < length s → (17 ≤ length s) × (sheet_read (take 17 s) ≡ Ok tt)
accepted-first s e l = let one : 17 ≤ length s = omega (arith, accepted-length s e) in (one, accepted-part s 0 1 e one)

pub accepted-behind : (s : List ℕ) → sheet_read s ≡ Ok tt → sheet_read (drop 17 s) ≡ Ok tt
accepted-behind s e = by_length (length s) refl
  where
    by_length : (n : ℕ) → length s ≡ n → sheet_read (drop 17 s) ≡ Ok tt
    by_length zero h = let short : length s ≤ 17 = omega arith in ap sheet_read (drop_of_length-le s short) ∙ accepted-part s 0 0 e (omega arith)
    by_length (suc n) h =
        let more = accepted-length s e in
        let k = readings_in s - 1 in
        ap sheet_read (sym (take_all (17 * k) (drop 17 s) (omega (arith, length-drop 17 s)))) ∙ accepted-part s 1 k e (omega arith)

-- ---- one behind the other
pub accepted-append : (a b : List ℕ) → sheet_read a ≡ Ok tt → sheet_read b ≡ Ok tt → length (a ++ b) ≤ 65535 → sheet_read (a ++ b) ≡ Ok tt
accepted-append a b p q l =
    let first = accepted-length a p in
    let second = accepted-length b q in
    let both = length-append a b in
    whole-accepted (a ++ b) (readings_in a + readings_in b) (omega arith) (omega arith) (λ j h. by_place (ltb j (readings_in a)) j refl h (omega (arith, both, first, second)))
  where
    in-first : (j : ℕ) → 17 * j + 17 ≤ length a → (i : ℕ) → i < 17 → get_or (a ++ b) (17 * j + i) 0 ≡ get_or a (17 * j + i) 0
    in-first j r i m =
        sym (get_or-take (length a) (a ++ b) (17 * j + i) 0 (omega arith)) ∙ ap (λ (x : List ℕ). get_or x (17 * j + i) 0) (take-append_seam a b)

    in-second : (j k : ℕ) → 17 * j ≡ length a + 17 * k → (i : ℕ) → i < 17 → get_or (a ++ b) (17 * j + i) 0 ≡ get_or b (17 * k + i) 0
    in-second j k d i m = ap (λ (x : ℕ). get_or (a ++ b) x 0) (omega arith) ∙ get_or-append-add a b (17 * k + i) 0

    by_place : (t : Bool) (j : ℕ) → ltb j (readings_in a) ≡ t → j < readings_in a + readings_in b → 17 * j + 17 ≤ length (a ++ b) → Whole (a ++ b) (17 * j)
    by_place true j e h r =
        let m : j < readings_in a = ltb-true _ _ e in
        let w = accepted-whole a j p m in
        whole-moves a (a ++ b) (17 * j) (17 * j) (in-first j w.room) r w
    by_place false j e h r =
        let m : readings_in a ≤ j = ltb-false _ _ e in
        let k = j - readings_in a in
        whole-moves b (a ++ b) (17 * k) (17 * j) (in-second j k (omega (arith, accepted-length a p))) r (accepted-whole b k q (omega arith))
