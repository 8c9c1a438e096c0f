-- "The shown message is a part of the frame's own data or of the reception buffer, never a copy" (document 01, "Frames and trains").
use Rattle.std.specs.Prelude.{ℕ, List, [], take, drop, ◌==◌, Result, Ok, Err}
use Rattle.identifiers.specs.Choice.{pick}
use Rattle.identifiers.specs.declared.refusal.Refusal.{Refusal}
use Rattle.receiver.specs.declared.outcome.Outcome.{Outcome}
use Rattle.receiver.specs.declared.outcome.Outcome.TheVariants.{OverLong, Opened, Taken, Single, Train}
use Rattle.receiver.specs.declared.outcome.OutcomeTold.{OutcomeTold}
use Rattle.receiver.specs.Receptions.{region_at}

unfoldable pub shown_of : List ℕ → List ℕ → Result Outcome Refusal → List ℕ
shown_of bytes buffer (Err why) = []
shown_of bytes buffer (Ok (OverLong from)) = []
shown_of bytes buffer (Ok (Opened from)) = []
shown_of bytes buffer (Ok (Taken from)) = []
shown_of bytes buffer (Ok (Single from functional L)) = take L (drop 2 bytes)
shown_of bytes buffer (Ok (Train from L)) = take L (drop (region_at from) buffer)

-- what the numbers of an outcome point to: `length` bytes from `start` on, of the frame's data where a single frame is handed out (1), else of the buffer
unfoldable pub told_message : OutcomeTold → List ℕ → List ℕ → List ℕ
told_message t bytes buffer = take t.length (drop t.start (pick (t.handed_out == 1) bytes buffer))
