-- One frame offered to a node: the reception that it moves, the next node, and the buffer afterwards (document 01, "Frames and trains").
use Rattle.std.specs.Prelude.{ℕ, List, length, ◌==◌, Result, Err, Option, Some, None}
use Rattle.identifiers.specs.Choice.{pick, both}
use Rattle.identifiers.specs.Refusals.{refusal}
use Rattle.identifiers.specs.declared.refusal.Refusal.{Refusal}
use Rattle.readings.specs.Positions.{trailer_at}
use Rattle.receiver.specs.declared.reception.Reception.{Reception}
use Rattle.receiver.specs.declared.frame.Judged.{Judged}
use Rattle.receiver.specs.declared.outcome.Outcome.{Outcome}
use Rattle.receiver.specs.Receptions.{buffer_length}
use Rattle.receiver.specs.Nodes.{Node, reception_at, with_reception, sound_node}
use Rattle.receiver.specs.Frames.{judged_of}
use Rattle.receiver.specs.Steps.{Step, judged_place, step_of, written_by}
use Rattle.readings.specs.declared.position.Position.{Position}

-- the reception that a frame moves: its place, the reception afterwards, and the frame's outcome
pub record Moved : Type 0 where
  pub place : ℕ
  pub reception : Reception
  pub outcome : Result Outcome Refusal

-- the node after a frame, and the frame's outcome
pub record Received : Type 0 where
  pub node : Node
  pub outcome : Result Outcome Refusal

-- 1 "lent state breaks its rules, own position not 1..5, .. or reception buffer not 1,536": otherwise the own position
unfoldable pub own_of : Node → ℕ → Option Position
own_of n room = pick (both (sound_node n) (room == buffer_length)) (trailer_at n.own) None

-- 1 where there is no own position, else what the frame is by itself
unfoldable pub judged_at : Node → ℕ → List ℕ → Option Position → Result Judged Refusal
judged_at n identifier bytes None = Err (refusal 1)
judged_at n identifier bytes (Some own) = judged_of own n.unit identifier bytes

unfoldable pub judged_by : Node → List ℕ → ℕ → List ℕ → Result Judged Refusal
judged_by n buffer identifier bytes = judged_at n identifier bytes (own_of n (length buffer))

-- what a frame so judged does to its vehicle's reception
unfoldable pub step_by : Node → Result Judged Refusal → List ℕ → ℕ → Step
step_by n j bytes stamp = step_of (reception_at n (judged_place j)) j (length bytes) stamp

-- the one reception that it moves
unfoldable pub moved_by : Node → Result Judged Refusal → List ℕ → ℕ → Moved
moved_by n j bytes stamp = record { place = judged_place j; reception = (step_by n j bytes stamp).reception; outcome = (step_by n j bytes stamp).outcome }

unfoldable pub moved_of : Node → List ℕ → ℕ → List ℕ → ℕ → Moved
moved_of n buffer identifier bytes stamp = moved_by n (judged_by n buffer identifier bytes) bytes stamp

-- the node with that reception stored
unfoldable pub stored_in : Node → Moved → Received
stored_in n m = record { node = with_reception n m.place m.reception; outcome = m.outcome }

unfoldable pub received_of : Node → List ℕ → ℕ → List ℕ → ℕ → Received
received_of n buffer identifier bytes stamp = stored_in n (moved_of n buffer identifier bytes stamp)

-- "An accepted frame of a train writes its message bytes there, and nothing else is written"
unfoldable pub buffer_after : Node → List ℕ → ℕ → List ℕ → ℕ → List ℕ
buffer_after n buffer identifier bytes stamp = written_by buffer (step_by n (judged_by n buffer identifier bytes) bytes stamp) bytes
