-- A log imported, byte after byte (document 02, 2026-02): whatever pieces it comes in, the bytes are the same.
use Rattle.std.specs.Prelude.{Bool, true, false, List, [], ◌∷◌, ◌++◌, ℕ, ◌+◌, eqb, length, take, Some, None, Result, Ok, Err}
use Rattle.identifiers.specs.Choice.{pick}
use Rattle.identifiers.specs.declared.refusal.Refusal.{Refusal}
use Rattle.receiver.specs.Frames.{Frame}
use Rattle.trains.specs.Sequences.{Line, start, ◌▹◌}
use Rattle.logs.specs.Outcomes.{LineRead}
use Rattle.logs.specs.Lines.{line_read}
use Rattle.logs.specs.declared.answer.LogFrame.{LogFrame}

-- what is known of a log so far: the bytes of the line that has begun; how many lines, frames and lines passed over; the frames in order,
-- as demand 3 reads them; and whether a line was refused, whose number is then that of the lines
pub record LogRead : Type 0 where
  pub held : List ℕ
  pub lines : ℕ
  pub frames : ℕ
  pub passed : ℕ
  pub sequence : Line
  pub answer : Result (Unit {0}) Refusal

abbrev pub begun : LogRead
begun = record { held = []; lines = 0; frames = 0; passed = 0; sequence = start; answer = Ok tt }

-- "into a stamped frame"
unfoldable pub stamped : LogFrame → Frame
stamped f = record { identifier = f.identifier; bytes = take f.«data».count f.«data».bytes; stamp = f.stamp }

-- a refused log hands over no frame: its refusal, and the number of the line
abbrev pub refused_at : ℕ → Refusal → LogRead
refused_at n why = record { held = []; lines = n; frames = 0; passed = 0; sequence = start; answer = Err why }

-- "Import turns each extended data frame .. into a stamped frame"; "Lines with three-digit identifiers are counted and passed over";
-- "25 malformed line .. with its number; then 2": a line by what it is read as
unfoldable pub took_frame : LogRead → LineRead → LogRead
took_frame r (Ok (Some f)) = record { held = []; lines = r.lines + 1; frames = r.frames + 1; passed = r.passed; sequence = r.sequence ▹ stamped f; answer = Ok tt }
took_frame r (Ok None) = record { held = []; lines = r.lines + 1; frames = r.frames; passed = r.passed + 1; sequence = r.sequence; answer = Ok tt }
took_frame r (Err why) = refused_at (r.lines + 1) why

unfoldable pub took_line : LogRead → LogRead
took_line r = took_frame r (line_read r.held)

-- no line was refused yet
unfoldable pub going : Result (Unit {0}) Refusal → Bool
going (Ok u) = true
going (Err why) = false

abbrev pub holding : LogRead → List ℕ → LogRead
holding r l = record { held = l; lines = r.lines; frames = r.frames; passed = r.passed; sequence = r.sequence; answer = r.answer }

-- a newline ends a line; behind a refused one nothing is read
unfoldable pub took_byte : LogRead → ℕ → LogRead
took_byte r b = pick (going r.answer) (pick (eqb b 10) (took_line r) (holding r (r.held ++ (b ∷ [])))) r

unfoldable pub took : LogRead → List ℕ → LogRead
took r [] = r
took r (b ∷ bytes) = took (took_byte r b) bytes

-- a last line without newline counts if it has a byte
unfoldable pub at_end : LogRead → LogRead
at_end r = pick (going r.answer) (pick (eqb (length r.held) 0) r (took_line r)) r

unfoldable pub imported : List ℕ → LogRead
imported log = at_end (took begun log)
