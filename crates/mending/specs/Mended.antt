-- What mending answers and leaves in the two lent arrays, and what the program writes (document 02, 2026-12).
use Rattle.std.specs.Prelude.{◌≡◌, Bool, Result, Ok, Err, List, ℕ, ltb, length}
use Rattle.identifiers.specs.Choice.{pick}
use Rattle.identifiers.specs.Bytes.{written}
use Rattle.identifiers.specs.Refusals.{refusal, number_of}
use Rattle.sheet.specs.Text.{refusal_line}
use Rattle.mending.specs.Pieces.{mended}
use Rattle.mending.specs.Listed.{stretch_lines}
use Rattle.identifiers.specs.declared.refusal.Refusal.{Refusal}
use Rattle.mending.specs.declared.mended.Mended.{Mended}
use Rattle.mending.specs.declared.mended.MendedTold.{MendedTold}

-- 21 "input too long"; "Refusals: 21 only"
unfoldable pub too_long : List ℕ → Bool
too_long s = ltb 65535 (length s)

-- how many bytes are kept, and how many the list has
unfoldable pub mended_as : List ℕ → Result Mended Refusal
mended_as s = pick (too_long s) (Err (refusal 21)) (Ok (record { kept = length (mended s); listed = length (stretch_lines s) }))

-- "It writes the kept readings unchanged and lists each maximal dropped stretch": each from the start of its array on, and every byte
-- behind them is as it was; where refused, both arrays are as they were
pub record Mends (s kept page kept-after page-after : List ℕ) : Type 0 where
  pub keeps : kept-after ≡ pick (too_long s) kept (written kept 0 (mended s))
  pub lists : page-after ≡ pick (too_long s) page (written page 0 (stretch_lines s))

-- the answer in numbers
unfoldable pub mended_told : Result Mended Refusal → MendedTold
mended_told (Ok done) = record { refusal = 0; kept = done.kept; listed = done.listed }
mended_told (Err why) = record { refusal = number_of why; kept = 0; listed = 0 }

-- what the program writes to standard output, and to standard error; "refused 21 at 0" to both
unfoldable pub sheet_text : List ℕ → List ℕ
sheet_text s = pick (too_long s) (refusal_line 21 0) (mended s)

unfoldable pub list_text : List ℕ → List ℕ
list_text s = pick (too_long s) (refusal_line 21 0) (stretch_lines s)
