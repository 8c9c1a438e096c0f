-- The whole input read (document 01, "Count sheet"): 21, else "earliest field first, then lowest".
use Rattle.std.specs.Prelude.{Bool, false, not, List, ℕ, zero, suc, ◌+◌, ◌*◌, ◌/◌, ◌%◌, eqb, ltb, length, Ok, Err}
use Rattle.identifiers.specs.Choice.{pick}
use Rattle.identifiers.specs.Refusals.{refusal, number_of}
use Rattle.sheet.specs.Fields.{SheetRead, refused_at, cut_short, wrong_form, sound_content, field_read}
use Rattle.sheet.specs.declared.sheet_read.SheetReadTold.{SheetReadTold}

-- the fields of the input, from 0, three to a reading of 17 bytes: their offsets 0, 4, 8, 17, 21, 25, .. and tags 1, 2, 3, 1, 2, 3, ..
unfoldable pub field_offset : ℕ → ℕ
field_offset j = 17 * (j / 3) + 4 * (j % 3)

unfoldable pub field_tag : ℕ → ℕ
field_tag j = j % 3 + 1

unfoldable pub field_at : List ℕ → ℕ → SheetRead
field_at s j = field_read s (field_offset j) (field_tag j)

-- the fields of the readings that are begun: "an input that ends between a reading's fields is cut at its end"
unfoldable pub fields_begun : List ℕ → ℕ
fields_begun s = 3 * ((length s + 16) / 17)

-- the first answer, unless it accepts; then the second
unfoldable pub or_next : SheetRead → SheetRead → SheetRead
or_next (Ok _) next = next
or_next (Err refused) next = Err refused

-- the three fields of the reading at an offset
unfoldable pub reading_read : List ℕ → ℕ → SheetRead
reading_read s at = or_next (or_next (field_read s at 1) (field_read s (at + 4) 2)) (field_read s (at + 8) 3)

-- the first of f 0, f 1, .. f (n - 1) that refuses
unfoldable pub first_refused : (ℕ → SheetRead) → ℕ → SheetRead
first_refused f zero = Ok tt
first_refused f (suc n) = or_next (first_refused f n) (f n)

-- "21 input too long", "offset 0 for 21"; else the earliest field that is refused
unfoldable pub sheet_read : List ℕ → SheetRead
sheet_read s = pick (ltb 65535 (length s)) (refused_at (refusal 21) 0) (first_refused (field_at s) (fields_begun s))

-- the answer in document 01's numbers
unfoldable pub sheet_read_told : SheetRead → SheetReadTold
sheet_read_told (Ok _) = record { refusal = 0; offset = 0 }
sheet_read_told (Err refused) = record { refusal = number_of refused.refusal; offset = refused.offset }

-- whether a number applies to field j, whatever the others do
unfoldable pub applies : List ℕ → ℕ → ℕ → Bool
applies s j n =
    pick (eqb n 22) (cut_short s (field_offset j))
    (pick (eqb n 23) (wrong_form s (field_offset j) (field_tag j))
    (pick (eqb n 24) (not (sound_content s (field_offset j + 3) (field_tag j))) false))
