-- The page of one mask (document 02, 2026-01): its readings whose basis is full, lowest count first, then the excluded ones.
use Rattle.std.specs.Prelude.{Bool, true, false, not, List, [], ◌∷◌, ◌++◌, map, ℕ, eqb, Ok, Err}
use Rattle.identifiers.specs.Choice.{both}
use Rattle.identifiers.specs.Refusals.{number_of}
use Rattle.order.specs.Order.{by_key, places_below}
use Rattle.sheet.specs.Fields.{SheetRead}
use Rattle.sheet.specs.Basis.{basis_of}
use Rattle.sheet.specs.Sheets.{sheet_read}
use Rattle.sheet.specs.Readings.{readings_in, reading_of}
use Rattle.sheet.specs.Text.{header, line_of, refusal_line}
use Rattle.sheet.specs.declared.basis.Basis.{Basis}
use Rattle.sheet.specs.declared.basis.Basis.TheVariants.{None, Full, Part}
use Rattle.sheet.specs.declared.reading.CountReading.{CountReading}

unfoldable pub is_full : Basis → Bool
is_full None = false
is_full Full = true
is_full Part = false

-- "the readings of one asked mask"; of these the ones "whose basis is full" are ranked, and the others "excluded"
unfoldable pub asks : ℕ → CountReading → Bool
asks mask r = eqb r.mask mask

abbrev pub basis_full : CountReading → Bool
basis_full r = is_full (basis_of r.mask r.available)

unfoldable pub ranks : ℕ → CountReading → Bool
ranks mask r = both (asks mask r) (basis_full r)

unfoldable pub excludes : ℕ → CountReading → Bool
excludes mask r = both (asks mask r) (not (basis_full r))

-- the places of the readings that pass a test, "in sheet order"
abbrev pub places_of : (CountReading → Bool) → List ℕ → List ℕ
places_of p s = places_below (λ k. p (reading_of s k)) (readings_in s)

-- "lowest count first, equal counts by place in the sheet"
unfoldable pub ranked : List ℕ → ℕ → List ℕ
ranked s mask = by_key (λ k. (reading_of s k).count) 65536 (places_of (ranks mask) s)

-- "and then the excluded ones in sheet order"
unfoldable pub excluded : List ℕ → ℕ → List ℕ
excluded s mask = places_of (excludes mask) s

-- a line of the count sheet for each reading: "with their basis"
unfoldable pub lines : List CountReading → List ℕ
lines [] = []
lines (r ∷ rs) = line_of r ++ lines rs

abbrev pub lines_at : List ℕ → List ℕ → List ℕ
lines_at s places = lines (map (reading_of s) places)

-- the whole text; "Refusals: those of the sheet, 21 to 24"
unfoldable pub ranked_as : SheetRead → List ℕ → ℕ → List ℕ
ranked_as (Ok _) s mask = header ++ lines_at s (ranked s mask ++ excluded s mask)
ranked_as (Err refused) s mask = refusal_line (number_of refused.refusal) refused.offset

unfoldable pub ranked_text : List ℕ → ℕ → List ℕ
ranked_text s mask = ranked_as (sheet_read s) s mask
