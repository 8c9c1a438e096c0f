-- Document 01's example and the empty input, and an input at each edge of the refusals, computed by the definitions that the contracts
-- cite.
use mathlib.Core.Path.{◌≡◌, refl}
use mathlib.Core.Bool.{true}
use mathlib.Core.Logic.{inl, inr}
use mathlib.Core.List.{List, [], ◌∷◌, ◌++◌}
use Prim.Native.Nat.{ℕ}
use native.Mathlib.Omega.{arith}
use Rattle.identifiers.specs.Choice.{both, either, pick}
use Rattle.identifiers.proofs.LawsBelow.{list-none, list-suc}
use Rattle.identifiers.specs.Refusals.{refusal}
use Rattle.text.specs.Digits.{decimal_in, hex_digit, hex}
use Rattle.server.specs.Mask.{sound_mask}
use Rattle.server.proofs.LawsMask.{mask-rule}
use Rattle.sheet.specs.Basis.{basis_of}
use Rattle.sheet.specs.Fields.{refused_at, cut_short, size_of, wrong_form, sound_position, sound_response, sound_content, field_read}
use Rattle.sheet.specs.Sheets.{field_offset, field_tag, field_at, fields_begun, or_next, first_refused, sheet_read}
use Rattle.sheet.specs.Readings.{readings_in, reading_of}
use Rattle.sheet.specs.Text.{header, word_of, numbers_of, line_of, refusal_line}
use Rattle.sheet.specs.Printed.{printed_as, printed}

abbrev first : List ℕ
first = 0x01 ∷ 0x00 ∷ 0x01 ∷ 0x01 ∷ 0x02 ∷ 0x00 ∷ 0x01 ∷ 0x08 ∷ 0x03 ∷ 0x00 ∷ 0x06 ∷ 0x59 ∷ 0x01 ∷ 0x7F ∷ 0x03 ∷ 0x00 ∷ 0x02 ∷ []

abbrev second : List ℕ
second = 0x01 ∷ 0x00 ∷ 0x01 ∷ 0x02 ∷ 0x02 ∷ 0x00 ∷ 0x01 ∷ 0x8C ∷ 0x03 ∷ 0x00 ∷ 0x06 ∷ 0x59 ∷ 0x01 ∷ 0x4B ∷ 0x03 ∷ 0x00 ∷ 0x05 ∷ []

pub record Worked : Type 0 where
  -- "1 08 7F 2 full" and "2 8C 4B 5 part" under the header
  pub example : printed (first ++ second)
      ≡ header
      ++ (49 ∷ 32 ∷ 48 ∷ 56 ∷ 32 ∷ 55 ∷ 70 ∷ 32 ∷ 50 ∷ 32 ∷ 102 ∷ 117 ∷ 108 ∷ 108 ∷ 10 ∷ [])
      ++ (50 ∷ 32 ∷ 56 ∷ 67 ∷ 32 ∷ 52 ∷ 66 ∷ 32 ∷ 53 ∷ 32 ∷ 112 ∷ 97 ∷ 114 ∷ 116 ∷ 10 ∷ [])
  -- "Empty input prints the header"
  pub empty : printed [] ≡ header
  -- a stray byte after a reading, the end between two fields, and a length that no byte fills under a wrong tag
  pub stray : sheet_read (first ++ (0x01 ∷ [])) ≡ refused_at (refusal 22) 17
  pub between : sheet_read (0x01 ∷ 0x00 ∷ 0x01 ∷ 0x01 ∷ []) ≡ refused_at (refusal 22) 4
  pub unfilled : sheet_read (0x09 ∷ 0xFF ∷ 0xFF ∷ 0x01 ∷ []) ≡ refused_at (refusal 22) 0
  -- the mask asked where the position is due; a position 6 before an end that is too early
  pub tag : sheet_read (first ++ (0x02 ∷ 0x00 ∷ 0x01 ∷ 0x01 ∷ [])) ≡ refused_at (refusal 23) 17
  pub position : sheet_read (0x01 ∷ 0x00 ∷ 0x01 ∷ 0x06 ∷ []) ≡ refused_at (refusal 24) 0
  -- "refused 22 at 17"
  pub refused : printed (first ++ (0x01 ∷ [])) ≡ 114 ∷ 101 ∷ 102 ∷ 117 ∷ 115 ∷ 101 ∷ 100 ∷ 32 ∷ 50 ∷ 50 ∷ 32 ∷ 97 ∷ 116 ∷ 32 ∷ 49 ∷ 55 ∷ 10 ∷ []

-- both masks of the example keep the mask rule
pub sound-7F : sound_mask 0x7F ≡ true
sound-7F = (mask-rule 0x7F).1 (refl, ((λ (e : ◌≡◌ {A = ℕ} 6 4). omega arith), inr refl))

sound-4B : sound_mask 0x4B ≡ true
sound-4B = (mask-rule 0x4B).1 (refl, ((λ (e : ◌≡◌ {A = ℕ} 2 4). omega arith), inl refl))

pub worked : Worked
unfolding both either pick basis_of cut_short size_of wrong_form sound_position sound_response sound_content field_read field_offset field_tag field_at fields_begun or_next first_refused sheet_read readings_in reading_of decimal_in hex_digit hex word_of numbers_of line_of refusal_line printed_as printed
worked = record {
  example = simp (sound-7F, sound-4B) (rw (list-suc, list-suc, list-none));
  empty = rw list-none;
  stray = simp sound-7F;
  between = refl;
  unfilled = refl;
  tag = simp sound-7F;
  position = refl;
  refused = simp sound-7F;
}
