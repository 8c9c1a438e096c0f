-- One field of a reading: "one-byte tag, two-byte length (high first)", content (document 01, "Count sheet").
use Rattle.std.specs.Prelude.{Bool, true, not, Result, Ok, Err, List, ℕ, ◌+◌, ◌-◌, ◌*◌, eqb, ltb, leb, get_or, length}
use Rattle.identifiers.specs.Choice.{pick, unless, both, either}
use Rattle.identifiers.specs.Refusals.{refusal}
use Rattle.server.specs.Mask.{sound_mask}
use Rattle.identifiers.specs.declared.refusal.Refusal.{Refusal}
use Rattle.sheet.specs.declared.fields.Field.{Field}
use Rattle.sheet.specs.declared.fields.Field.TheVariants.{Position, Mask, Response}
use Rattle.sheet.specs.declared.sheet_read.RefusedAt.{RefusedAt}

-- what reading answers: accepted, or refused at the offset of a field
abbrev pub SheetRead : Type 0
SheetRead = Result (Unit {0}) RefusedAt

abbrev pub refused_at : Refusal → ℕ → SheetRead
refused_at why offset = Err (record { refusal = why; offset = offset })

-- "1 position, 2 mask asked, 3 the six-byte 19 01 response"
abbrev pub tag_of : Field → ℕ
tag_of Position = 1
tag_of Mask = 2
tag_of Response = 3

-- two bytes at an offset, high first
abbrev pub pair_at : List ℕ → ℕ → ℕ
pair_at s at = get_or s at 0 * 256 + get_or s (at + 1) 0

-- how many bytes are left at an offset
abbrev pub bytes_left : List ℕ → ℕ → ℕ
bytes_left s at = length s - at

-- 22 "field cut short (under 3 bytes left, or fewer than the length it names"
unfoldable pub cut_short : List ℕ → ℕ → Bool
cut_short s at = either (ltb (bytes_left s at) 3) (ltb (bytes_left s at - 3) (pair_at s (at + 1)))

-- how long the content of each tag is
unfoldable pub size_of : ℕ → ℕ
size_of tag = pick (eqb tag 3) 6 1

-- 23 "wrong tag or length"
unfoldable pub wrong_form : List ℕ → ℕ → ℕ → Bool
wrong_form s at tag = either (not (eqb (get_or s at 0) tag)) (not (eqb (pair_at s (at + 1)) (size_of tag)))

-- 24 "content (position not 1..5, not 59 01, format not 03, mask rule broken)": what is sound where it is not given.
-- The mask rule is of the availability mask; neither the mask asked nor the count is judged.
unfoldable pub sound_position : ℕ → Bool
sound_position position = both (leb 1 position) (leb position 5)

unfoldable pub sound_response : List ℕ → ℕ → Bool
sound_response s at =
    both (eqb (get_or s at 0) 0x59) (both (eqb (get_or s (at + 1) 0) 0x01) (both (eqb (get_or s (at + 3) 0) 0x03) (sound_mask (get_or s (at + 2) 0))))

unfoldable pub sound_content : List ℕ → ℕ → ℕ → Bool
sound_content s at tag = pick (eqb tag 1) (sound_position (get_or s at 0)) (pick (eqb tag 3) (sound_response s at) true)

-- the field at an offset that is to have a tag: 22 before 23 before 24, with the field's offset
unfoldable pub field_read : List ℕ → ℕ → ℕ → SheetRead
field_read s at tag =
    pick (cut_short s at) (refused_at (refusal 22) at)
    (pick (wrong_form s at tag) (refused_at (refusal 23) at)
    (unless (sound_content s (at + 3) tag) (refused_at (refusal 24) at) (Ok tt)))
