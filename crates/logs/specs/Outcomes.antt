-- What a line of a log is read as, by its form alone (document 02, 2026-02).
use Rattle.std.specs.Prelude.{◌≡◌, true, false, List, [], ◌++◌, ℕ, ◌-◌, ◌^◌, ◌≤◌, ◌<◌, length, take, replicate, Option, Some, None, Result, Ok, Err}
use Rattle.identifiers.specs.Refusals.{refusal, number_of}
use Rattle.identifiers.specs.declared.refusal.Refusal.{Refusal}
use Rattle.logs.specs.Grammar.{Formed, stamp_of, number_of_name, bytes_of}
use Rattle.logs.specs.declared.answer.DataBytes.{DataBytes}
use Rattle.logs.specs.declared.answer.LogFrame.{LogFrame}
use Rattle.logs.specs.declared.answer.LogFrameTold.{LogFrameTold}

-- a frame, none where the line is passed over, or the refusal
abbrev pub LineRead : Type 0
LineRead = Result (Option LogFrame) Refusal

-- bytes in eight places, 0 behind them
unfoldable pub eight : List ℕ → List ℕ
eight bytes = bytes ++ replicate (8 - length bytes) 0

abbrev pub data_bytes : List ℕ → DataBytes
data_bytes bytes = record { count = length bytes; bytes = eight bytes }

-- a frame, its bytes in eight places
abbrev pub frame_said : ℕ → ℕ → List ℕ → LineRead
frame_said identifier stamp bytes = Ok (Some (record { identifier = identifier; stamp = stamp; «data» = data_bytes bytes }))

-- "Lines with three-digit identifiers are counted and passed over"; "25 malformed line, more than 8 data bytes included ..; then 2 for an
-- identifier too large"; "Import turns each extended data frame, eight hex digits, into a stamped frame"
pub data Outcome (l : List ℕ) : LineRead → Type 0 where
  malformed : (Formed l → ⊥) → Outcome l (Err (refusal 25))
  three_digits : (a : Formed l) → length a.name ≡ 3 → Outcome l (Ok None)
  too_large : (a : Formed l) → length a.name ≡ 8 → 2 ^ 29 ≤ number_of_name a.name → Outcome l (Err (refusal 2))
  stamped : (a : Formed l) → length a.name ≡ 8 → number_of_name a.name < 2 ^ 29 → Outcome l (frame_said (number_of_name a.name) (stamp_of a.seconds a.micros) (bytes_of a.digits))

-- ---- the answer in numbers; without a frame its numbers are 0
abbrev pub frame_told : LineRead → LogFrameTold
frame_told (Ok (Some f)) = record { refusal = 0; passed_over = false; length = f.«data».count; identifier = f.identifier; stamp = f.stamp }
frame_told (Ok None) = record { refusal = 0; passed_over = true; length = 0; identifier = 0; stamp = 0 }
frame_told (Err why) = record { refusal = number_of why; passed_over = false; length = 0; identifier = 0; stamp = 0 }

-- the data bytes of a frame, which go into a lent array; none without a frame
abbrev pub frame_bytes : LineRead → List ℕ
frame_bytes (Ok (Some f)) = take f.«data».count f.«data».bytes
frame_bytes (Ok None) = []
frame_bytes (Err why) = []
