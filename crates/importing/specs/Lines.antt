-- The lines of a log, and what they say, by the log alone: no fold and no state.
use Rattle.std.specs.Prelude.{◌≡◌, List, [], ◌∷◌, ◌++◌, ℕ, suc, Some, None, Ok}
use Rattle.trains.specs.Sequences.{Line, ◌▹◌}
use Rattle.logs.specs.Grammar.{Each}
use Rattle.logs.specs.Fronts.{in_line}
use Rattle.logs.specs.Lines.{line_read}
use Rattle.logs.specs.declared.answer.LogFrame.{LogFrame}
use Rattle.importing.specs.Logs.{stamped}

-- lines "end at a newline": the lines that a newline ends, and what stands behind the last of them
pub data Cut : List ℕ → List (List ℕ) → List ℕ → Type 0 where
  rest_only : {rest : List ℕ} → Each in_line rest → Cut rest [] rest
  line_first : {l log : List ℕ} {ls : List (List ℕ)} {rest : List ℕ} → Each in_line l → Cut log ls rest → Cut (l ++ (10 ∷ log)) (l ∷ ls) rest

-- "a last one without newline counts if it has a byte"
unfoldable pub counted : List (List ℕ) → List ℕ → List (List ℕ)
counted ls [] = ls
counted ls (b ∷ rest) = ls ++ ((b ∷ rest) ∷ [])

pub data LinesOf (log : List ℕ) : List (List ℕ) → Type 0 where
  lines_are : {ls : List (List ℕ)} {rest : List ℕ} → Cut log ls rest → LinesOf log (counted ls rest)

-- every line is a frame or is passed over
pub data Accepted : List (List ℕ) → Type 0 where
  no_line : Accepted []
  frame_first : {l : List ℕ} {f : LogFrame} {ls : List (List ℕ)} → line_read l ≡ Ok (Some f) → Accepted ls → Accepted (l ∷ ls)
  over_first : {l : List ℕ} {ls : List (List ℕ)} → line_read l ≡ Ok None → Accepted ls → Accepted (l ∷ ls)

-- the frames of lines, in order, behind those of a sequence; how many are frames, and how many are passed over
unfoldable pub frames_behind : {ls : List (List ℕ)} → Line → Accepted ls → Line
frames_behind h no_line = h
frames_behind h (frame_first {f = f} e a) = frames_behind (h ▹ stamped f) a
frames_behind h (over_first e a) = frames_behind h a

unfoldable pub frames_among : {ls : List (List ℕ)} → Accepted ls → ℕ
frames_among no_line = 0
frames_among (frame_first e a) = suc (frames_among a)
frames_among (over_first e a) = frames_among a

unfoldable pub over_among : {ls : List (List ℕ)} → Accepted ls → ℕ
over_among no_line = 0
over_among (frame_first e a) = over_among a
over_among (over_first e a) = suc (over_among a)
