-- The count sheet's theorems (document 01, "Count sheet"): the accepted sheets, the written ones, the refused ones, and the page. Each
-- statement can be read without its proof. The basis is in LawsBasis, the worked examples are in Worked.
use Rattle.std.specs.Prelude.{Ok}
use mathlib.Core.Path.{◌≡◌, refl, sym, ap, ◌∙◌}
use mathlib.Core.Bool.{Bool, true, false}
use mathlib.Core.List.{List, [], ◌∷◌, ◌++◌, append_assoc}
use Prim.Native.Nat.{ℕ, ◌+◌, ◌*◌, ◌≤◌, ◌<◌}
use native.Mathlib.Omega.{arith}
use borrow.Author.Tests.{ltb-true, ltb-false}
use lib.Dec.{ltb}
use lib.ListN.{length, get_or, take, drop}
use lib.Seq.{take_all}
use Rattle.identifiers.specs.Below.{list_below}
use Rattle.identifiers.specs.Bytes.{Puts}
use Rattle.identifiers.specs.Refusals.{refusal, number_of}
use Rattle.identifiers.proofs.LawsBytes.{puts-rest}
use Rattle.text.specs.Digits.{decimal, hex, blank, newline, value_from, newlines}
use Rattle.text.proofs.LawsDigits.{decimal-in}
use Rattle.text.proofs.Texts.{decimal-says, hex-says}
use Rattle.sheet.specs.Fields.{refused_at}
use Rattle.sheet.specs.Basis.{basis_of}
use Rattle.sheet.specs.Sheets.{sheet_read}
use Rattle.sheet.specs.Readings.{readings_in, reading_of, reading_bytes, sheet_of, Sound, EachSound}
use Rattle.sheet.specs.Text.{page_size, header, word_of, numbers_of, line_of, refusal_line}
use Rattle.sheet.specs.Printed.{printed}
use Rattle.identifiers.specs.declared.refusal.Refusal.{Refusal}
use Rattle.sheet.specs.declared.reading.CountReading.{CountReading}
use Rattle.sheet.proofs.LawsFields.{position-range}
use Rattle.sheet.proofs.LawsSheets.{accepted-short, sheet-21}
use Rattle.sheet.proofs.LawsEarliest.{Earliest, earliest-then-lowest, earliest-refused, refused-range, refused-small}
use Rattle.sheet.proofs.LawsReadings.{accepted-whole, accepted-length, whole-accepted}
use Rattle.sheet.proofs.LawsStands.{Bytes, whole-stands, whole-sound, stands-whole, stands-reading, length-sheet, sheet-stands, each-sound, listed}
use Rattle.sheet.proofs.LawsText.{newlines-line, newlines-refusal, newlines-table}
use Rattle.sheet.proofs.LawsPrinted.{printed-accepted, printed-refused, print-whole}

-- ---- an accepted sheet is whole readings of 17 bytes; a line for each follows the header, in order
pub record AcceptedSheet (s : List ℕ) : Type 0 where
  pub short : length s ≤ 65535
  pub whole : length s ≡ 17 * readings_in s
  pub readings : s ≡ list_below (λ k. reading_bytes (reading_of s k)) (readings_in s)
  pub sound : (k : ℕ) → k < readings_in s → Sound (reading_of s k)
  pub text : printed s ≡ header ++ list_below (λ k. line_of (reading_of s k)) (readings_in s)
  pub lines : newlines (printed s) ≡ readings_in s + 1

pub accepted-sheet : (s : List ℕ) → Bytes s → sheet_read s ≡ Ok tt → AcceptedSheet s
accepted-sheet s b e =
    let l = accepted-length s e in
    let t = printed-accepted s e in
    record {
      short = accepted-short s e;
      whole = l;
      readings = sym (take_all (17 * readings_in s) s (omega arith)) ∙ listed s (reading_of s) (readings_in s) (λ k h. whole-stands s k b (accepted-whole s k e h));
      sound = λ k h. whole-sound s k b (accepted-whole s k e h);
      text = t;
      lines = ap newlines t ∙ newlines-table (λ k. line_of (reading_of s k)) (readings_in s) (λ k. newlines-line (reading_of s k));
    }

-- a line says its reading: the columns "decimal, hex, hex, decimal, word" say position, mask, available, count and basis
pub record LineSays (r : CountReading) : Type 0 where
  pub columns : line_of r
      ≡ decimal r.position ++ blank ++ hex r.mask ++ blank ++ hex r.available ++ blank ++ decimal r.count ++ blank ++ word_of (basis_of r.mask r.available) ++ newline
  pub position : value_from 10 0 (decimal r.position) ≡ r.position
  pub mask : value_from 16 0 (hex r.mask) ≡ r.mask
  pub available : value_from 16 0 (hex r.available) ≡ r.available
  pub count : value_from 10 0 (decimal r.count) ≡ r.count

pub line-says : (r : CountReading) → Sound r → LineSays r
unfolding line_of numbers_of
line-says r h =
    let position = decimal-in 5 r.position (omega arith) (omega (arith, (position-range r.position h.position).1)) in
    let count = decimal-in 5 r.count (omega arith) (omega (arith, h.count)) in
    record {
      columns = rw (position, count) (simp append_assoc);
      position = decimal-says r.position;
      mask = hex-says r.mask h.masks.0;
      available = hex-says r.available h.masks.1;
      count = decimal-says r.count;
    }

-- ---- readings written one after the other are accepted, and read back
pub record WrittenSheet (rs : List CountReading) : Type 0 where
  pub accepted : sheet_read (sheet_of rs) ≡ Ok tt
  pub as_many : readings_in (sheet_of rs) ≡ length rs
  pub back : (k : ℕ) (other : CountReading) → k < length rs → reading_of (sheet_of rs) k ≡ get_or rs k other

pub written-sheet : (rs : List CountReading) → EachSound rs → length rs ≤ 3855 → WrittenSheet rs
unfolding readings_in
written-sheet rs h l =
    let e = length-sheet rs in
    record {
      accepted = whole-accepted (sheet_of rs) (length rs) e l (λ k i. let r = reading_of (sheet_of rs) 0 in stands-whole (sheet_of rs) (17 * k) (get_or rs k r) (each-sound rs k r h i) (sheet-stands rs k r i));
      as_many = omega arith;
      back = λ k other i. stands-reading (sheet_of rs) k (get_or rs k other) (sheet-stands rs k other i);
    }

-- ---- refusals: 21 exactly where the input is too long; else the earliest field, then the lowest number; and only its line is printed
pub too_long : (s : List ℕ) → 65535 < length s → sheet_read s ≡ refused_at (refusal 21) 0
too_long = sheet-21

pub only-too-long : (s : List ℕ) (offset : ℕ) → sheet_read s ≡ refused_at (refusal 21) offset → 65535 < length s
only-too-long s offset e = by_length (ltb 65535 (length s)) refl
  where
    by_length : (t : Bool) → ltb 65535 (length s) ≡ t → 65535 < length s
    by_length true h = ltb-true _ _ h
    by_length false h =
        let l : length s ≤ 65535 = ltb-false _ _ h in
        let r : 22 ≤ 21 = (refused-range s (refusal 21) offset l e).0.0 in
        absurd (omega arith)

pub earliest-field-then-lowest : (s : List ℕ) (why : Refusal) (offset : ℕ) → length s ≤ 65535
    → (sheet_read s ≡ refused_at why offset → Earliest s (number_of why) offset) × (Earliest s (number_of why) offset → sheet_read s ≡ refused_at why offset)
earliest-field-then-lowest s why offset l = (earliest-then-lowest s why offset l, earliest-refused s why offset l)

pub record RefusedSheet (s : List ℕ) (why : Refusal) (offset : ℕ) : Type 0 where
  -- "refused N at OFFSET"
  pub text : printed s ≡ (114 ∷ 101 ∷ 102 ∷ 117 ∷ 115 ∷ 101 ∷ 100 ∷ 32 ∷ []) ++ decimal (number_of why) ++ (32 ∷ 97 ∷ 116 ∷ 32 ∷ []) ++ decimal offset ++ newline
  pub one_line : newlines (printed s) ≡ 1
  pub number : value_from 10 0 (decimal (number_of why)) ≡ number_of why
  pub place : value_from 10 0 (decimal offset) ≡ offset

pub refused-sheet : (s : List ℕ) (why : Refusal) (offset : ℕ) → sheet_read s ≡ refused_at why offset → RefusedSheet s why offset
unfolding refusal_line
refused-sheet s why offset e =
    let t = printed-refused s why offset e in
    let r = refused-small s why offset e in
    let number = decimal-in 5 (number_of why) (omega arith) (omega (arith, r.number)) in
    let place = decimal-in 5 offset (omega arith) (omega (arith, r.place)) in
    record { text = t ∙ rw (number, place); one_line = ap newlines t ∙ newlines-refusal (number_of why) offset; number = decimal-says (number_of why); place = decimal-says offset }

-- ---- the page: where it holds a text as `print`'s contract says, that is the whole text, and every byte after it is as it was
pub page-holds : {page after : List ℕ} {end : ℕ} (s : List ℕ) → length page ≡ page_size → Puts page 0 (printed s) end after → (take end after ≡ printed s) × (drop end after ≡ drop end page)
page-holds s h p = (print-whole s h p, puts-rest p)
