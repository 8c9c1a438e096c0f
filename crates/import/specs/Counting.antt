-- What the program knows of a log that it has read in part: the counts, and the bytes that it has still to take.
use Rattle.std.specs.Prelude.{◌≡◌, List, [], ℕ, ◌+◌, ◌-◌, ◌^◌, ◌≤◌, ◌<◌, length, take, drop, Some, None, Result, Ok, Err}
use Rattle.identifiers.specs.Refusals.{number_of}
use Rattle.identifiers.specs.declared.refusal.Refusal.{Refusal}
use Rattle.logs.specs.Grammar.{Each}
use Rattle.logs.specs.Outcomes.{LineRead}
use Rattle.logs.specs.Fronts.{in_line}
use Rattle.importing.specs.Logs.{LogRead, refused_at, begun, took, imported}
use Rattle.importing.specs.Summaries.{counts_text, refused_text}
use Rattle.import.specs.declared.counting.Counts.{Counts}
use Rattle.import.specs.declared.counting.BadLine.{BadLine}
use Rattle.import.specs.declared.counting.Taken.{Taken}
use Rattle.import.specs.declared.Stopped.{Stopped}
use Rattle.import.specs.declared.Stopped.TheVariants.{Unread, Bad}

-- the counts of what is known of a log, or its first bad line
abbrev pub counts_by : Result (Unit {0}) Refusal → ℕ → ℕ → ℕ → Result Counts BadLine
counts_by (Ok u) lines frames passed = Ok (record { lines = lines; frames = frames; passed = passed })
counts_by (Err why) lines frames passed = Err (record { refusal = why; line = lines })

abbrev pub counts_of : LogRead → Result Counts BadLine
counts_of r = counts_by r.answer r.lines r.frames r.passed

abbrev pub begun_counts : Counts
begun_counts = record { lines = 0; frames = 0; passed = 0 }

-- a line more
abbrev pub next_counts : Counts → LineRead → Result Counts BadLine
next_counts c (Ok (Some f)) = Ok (record { lines = c.lines + 1; frames = c.frames + 1; passed = c.passed })
next_counts c (Ok None) = Ok (record { lines = c.lines + 1; frames = c.frames; passed = c.passed + 1 })
next_counts c (Err why) = Err (record { refusal = why; line = c.lines + 1 })

-- no more frames and no more lines passed over than lines
pub record Counted (c : Counts) : Type 0 where
  pub frames : c.frames ≤ c.lines
  pub passed : c.passed ≤ c.lines

-- counts to which so many lines can be added
pub record Ready (c : Counts) (n : ℕ) : Type 0 where
  pub counted : Counted c
  pub room : c.lines + n < 2 ^ 64

-- of a log of which no line was refused these are the counts of the lines that are taken, and these bytes are still to be taken
pub record Standing (log : List ℕ) (c : Counts) (rest : List ℕ) : Type 0 where
  pub state : LogRead
  pub clean : state.held ≡ []
  pub counts : counts_of state ≡ Ok c
  pub reads : took begun log ≡ took state rest

-- the lines of a text taken: of every log that stands so, these are the counts behind them, and the bytes from `at` on are a line that
-- has begun
pub record TakesLines (c : Counts) (text : List ℕ) (t : Taken) : Type 0 where
  pub stands : (log : List ℕ) → Standing log c text → Standing log t.counts (drop t.at text)
  pub begun_line : Each in_line (drop t.at text)
  pub near : t.at ≤ length text
  pub counted : Counted t.counts
  pub few : t.counts.lines ≤ c.lines + length text

-- or one of them is refused: every log that stands so is refused there already, whatever follows
pub record FindsBad (c : Counts) (text : List ℕ) (b : BadLine) : Type 0 where
  pub stops : (log : List ℕ) → Standing log c text → took begun log ≡ refused_at b.line b.refusal
  pub few : b.line ≤ c.lines + length text

abbrev pub Takes : Counts → List ℕ → Result Taken BadLine → Type 0
Takes c text (Ok t) = TakesLines c text t
Takes c text (Err b) = FindsBad c text b

-- the line that has begun taken as the last one: of every log that stands so, this is what its import counts
pub record Ends (c : Counts) (rest : List ℕ) (r : Result Counts BadLine) : Type 0 where
  pub ends : (log : List ℕ) → Standing log c rest → Each in_line rest → counts_of (imported log) ≡ r

-- the bytes between two places stand at the start
pub record Moved (before : List ℕ) (from to count : ℕ) (after : List ℕ) : Type 0 where
  pub many : count ≡ to - from
  pub stand : take count after ≡ drop from (take to before)
  pub long : length after ≡ length before

-- what was counted, or this where the reading failed
abbrev pub counts_read : Result Counts Stopped → Result Counts BadLine → Result Counts BadLine
counts_read (Ok c) d = Ok c
counts_read (Err (Bad b)) d = Err b
counts_read (Err Unread) d = d

-- what is said of the counts
abbrev pub summary_of : Result Counts BadLine → List ℕ
summary_of (Ok c) = counts_text c.frames c.passed
summary_of (Err b) = refused_text (number_of b.refusal) b.line
