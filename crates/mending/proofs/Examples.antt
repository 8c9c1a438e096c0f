-- Cut sheets mended, computed by the definitions that the contract cites.
use mathlib.Core.Path.{◌≡◌, refl}
use mathlib.Core.List.{List, [], ◌∷◌, ◌++◌}
use Prim.Native.Nat.{ℕ}
use Rattle.identifiers.specs.Choice.{both, either, pick}
use Rattle.text.specs.Digits.{decimal_in, decimal}
use Rattle.sheet.specs.Fields.{cut_short, size_of, wrong_form, sound_position, sound_response, sound_content, field_read}
use Rattle.sheet.specs.Sheets.{field_offset, field_tag, field_at, fields_begun, or_next, first_refused, sheet_read}
use Rattle.sheet.proofs.Worked.{sound-7F}
use Rattle.mending.specs.Pieces.{accepts, is_reading, begins, Kept, Dropped, ended, walk, pieces, kept_of, mended}
use Rattle.mending.specs.Listed.{stretch_line, lines_from, stretch_lines}

-- a reading of position 1, mask 08, available 7F and count 2, and the same without its count
abbrev front : List ℕ
front = 0x01 ∷ 0x00 ∷ 0x01 ∷ 0x01 ∷ 0x02 ∷ 0x00 ∷ 0x01 ∷ 0x08 ∷ 0x03 ∷ 0x00 ∷ 0x06 ∷ 0x59 ∷ 0x01 ∷ 0x7F ∷ 0x03 ∷ []

abbrev reading : List ℕ
reading = front ++ (0x00 ∷ 0x02 ∷ [])

pub record Examples : Type 0 where
  -- three stray bytes, a reading, one stray byte
  pub stray : pieces (0xFF ∷ 0x00 ∷ 0x01 ∷ (reading ++ (0x01 ∷ []))) ≡ Dropped (0xFF ∷ 0x00 ∷ 0x01 ∷ []) ∷ Kept reading ∷ Dropped (0x01 ∷ []) ∷ []
  -- "dropped 3 at 0", "dropped 1 at 20"
  pub stray-list : stretch_lines (0xFF ∷ 0x00 ∷ 0x01 ∷ (reading ++ (0x01 ∷ [])))
      ≡ (100 ∷ 114 ∷ 111 ∷ 112 ∷ 112 ∷ 101 ∷ 100 ∷ 32 ∷ 51 ∷ 32 ∷ 97 ∷ 116 ∷ 32 ∷ 48 ∷ 10 ∷ [])
      ++ (100 ∷ 114 ∷ 111 ∷ 112 ∷ 112 ∷ 101 ∷ 100 ∷ 32 ∷ 49 ∷ 32 ∷ 97 ∷ 116 ∷ 32 ∷ 50 ∷ 48 ∷ 10 ∷ [])
  -- a sound sheet, and the empty one
  pub sound : pieces (reading ++ reading) ≡ Kept reading ∷ Kept reading ∷ []
  pub empty : pieces [] ≡ []
  -- cut before its last byte a reading borrows the first byte behind it, its count is 1, and the sound one behind it is dropped
  pub borrowed : pieces (front ++ (0x00 ∷ []) ++ reading)
      ≡ Kept (front ++ (0x00 ∷ 0x01 ∷ []))
      ∷ Dropped (0x00 ∷ 0x01 ∷ 0x01 ∷ 0x02 ∷ 0x00 ∷ 0x01 ∷ 0x08 ∷ 0x03 ∷ 0x00 ∷ 0x06 ∷ 0x59 ∷ 0x01 ∷ 0x7F ∷ 0x03 ∷ 0x00 ∷ 0x02 ∷ [])
      ∷ []
  -- cut before its count it borrows two, and its count is 256; where no more than these stood behind it, nothing is dropped
  pub borrowed-both : pieces (front ++ reading)
      ≡ Kept (front ++ (0x01 ∷ 0x00 ∷ []))
      ∷ Dropped (0x01 ∷ 0x01 ∷ 0x02 ∷ 0x00 ∷ 0x01 ∷ 0x08 ∷ 0x03 ∷ 0x00 ∷ 0x06 ∷ 0x59 ∷ 0x01 ∷ 0x7F ∷ 0x03 ∷ 0x00 ∷ 0x02 ∷ [])
      ∷ []
  pub unseen : pieces (front ++ (0x01 ∷ 0x00 ∷ []) ++ reading) ≡ Kept (front ++ (0x01 ∷ 0x00 ∷ [])) ∷ Kept reading ∷ []

pub examples : Examples
unfolding both either pick cut_short size_of wrong_form sound_position sound_response sound_content field_read field_offset field_tag field_at fields_begun or_next first_refused sheet_read accepts is_reading begins ended walk pieces kept_of mended decimal_in decimal stretch_line lines_from stretch_lines
examples = record {
  stray = simp sound-7F;
  stray-list = simp sound-7F;
  sound = simp sound-7F;
  empty = refl;
  borrowed = simp sound-7F;
  borrowed-both = simp sound-7F;
  unseen = simp sound-7F;
}
