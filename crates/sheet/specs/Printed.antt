-- The whole text of an input (document 01, "Count sheet").
use Rattle.std.specs.Prelude.{List, ◌++◌, ℕ, Ok, Err}
use Rattle.identifiers.specs.Below.{list_below}
use Rattle.identifiers.specs.Refusals.{number_of}
use Rattle.sheet.specs.Fields.{SheetRead}
use Rattle.sheet.specs.Sheets.{sheet_read}
use Rattle.sheet.specs.Readings.{readings_in, reading_of}
use Rattle.sheet.specs.Text.{header, line_of, refusal_line}

-- the lines of the first n readings, in order
abbrev pub lines_of : List ℕ → ℕ → List ℕ
lines_of s n = list_below (λ k. line_of (reading_of s k)) n

-- the header and a line for each reading; "then only `refused N at OFFSET` of the field is printed"
unfoldable pub printed_as : SheetRead → List ℕ → List ℕ
printed_as (Ok _) s = header ++ lines_of s (readings_in s)
printed_as (Err refused) s = refusal_line (number_of refused.refusal) refused.offset

unfoldable pub printed : List ℕ → List ℕ
printed s = printed_as (sheet_read s) s
