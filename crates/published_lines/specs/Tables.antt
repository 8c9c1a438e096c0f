-- What stands in a table of cases: parts of a text between marks, and the numbers that they say.
use Rattle.std.specs.Prelude.{List, [], ℕ, eqb, length, count_by, slice_get}
use Rattle.std.specs.List.{slice_split}
use Rattle.std.specs.Option.{unwrap_or}
use Rattle.identifiers.specs.Choice.{pick}
use Rattle.text.specs.Reading.{digits_read}

-- how many marks a text has
abbrev pub marks_of : ℕ → List ℕ → ℕ
marks_of mark text = count_by (λ b. eqb b mark) text

-- what stands behind k marks of a text, up to the next one; nothing where it has fewer
abbrev pub part_of : ℕ → ℕ → List ℕ → List ℕ
part_of mark k text = unwrap_or (slice_get (slice_split (λ b. eqb b mark) text) k) []

-- the number that a whole word says to a base, 0 where it says none below 2^32: to base 16 in hexadecimal, to every other in decimal
unfoldable pub value_of : ℕ → List ℕ → ℕ
value_of base word = unwrap_or (digits_read (pick (eqb base 16) 16 10) (length word) word) 0
