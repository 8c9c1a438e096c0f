-- What an outcome says of the node and of the buffer afterwards (document 01, "Refusal numbers": "A refusal .. leaves state and buffers as found; 11, 13 and 14 close that vehicle's reception").
use Rattle.std.specs.Prelude.{◌≡◌, ℕ, ◌+◌, ◌*◌, ◌%◌, ◌^◌, Bool, true, false, List, ◌==◌, slice_index, Result, Ok, Err, Some}
use Rattle.identifiers.specs.Choice.{pick, either}
use Rattle.identifiers.specs.Refusals.{number_of}
use Rattle.identifiers.specs.declared.refusal.Refusal.{Refusal}
use Rattle.readings.specs.Positions.{place_of, position_of}
use Rattle.readings.specs.declared.position.Position.{Position}
use Rattle.receiver.specs.declared.reception.Reception.{Reception}
use Rattle.receiver.specs.declared.outcome.Outcome.{Outcome}
use Rattle.receiver.specs.declared.outcome.Outcome.TheVariants.{OverLong, Opened, Taken, Single, Train}
use Rattle.receiver.specs.Receptions.{closed, open_with, region_at}
use Rattle.receiver.specs.Steps.{Step, done_of, left_of}
use Rattle.receiver.specs.Nodes.{Node, with_reception}

-- "11, 13 and 14 close that vehicle's reception"
unfoldable pub closes : ℕ → Bool
closes number = either (number == 11) (either (number == 13) (number == 14))

-- `count` bytes of the frame's data, from `start` on, go to `at`, and the vehicle's reception becomes r
pub record Does (s : Step) (at start count : ℕ) (r : Reception) : Type 0 where
  pub written_at : s.at ≡ at
  pub read_from : s.start ≡ start
  pub bytes : s.count ≡ count
  pub reception : s.reception ≡ r

-- a step that found the reception r, at a frame with these bytes and this stamp
abbrev pub Changes : Reception → List ℕ → ℕ → Step → Result Outcome Refusal → Type 0
Changes r bytes stamp s (Err why) = Does s 0 0 0 (pick (closes (number_of why)) closed r)
Changes r bytes stamp s (Ok (OverLong from)) = Does s 0 0 0 closed
Changes r bytes stamp s (Ok (Opened from)) = Does s (region_at from) 3 5 (open_with (slice_index bytes 1 % 16 * 256 + slice_index bytes 2) 0 stamp)
Changes r bytes stamp s (Ok (Taken from)) = Does s (region_at from + done_of r) 2 6 (open_with r.length (r.taken + 1) stamp)
Changes r bytes stamp s (Ok (Single from functional L)) = Does s 0 0 0 (pick functional r closed)
Changes r bytes stamp s (Ok (Train from L)) = Does s (region_at from + done_of r) 2 (left_of r) closed

-- "that vehicle's reception": of the vehicle whose address is the frame's SA; it is closed, and nothing else of the node changes
pub record ClosedFor (n : Node) (identifier : ℕ) (node : Node) : Type 0 where
  pub vehicle : Position
  pub by_source : position_of (identifier % 2 ^ 8) ≡ Some vehicle
  pub closed_there : node ≡ with_reception n (place_of vehicle) closed

-- what a refusal with this number leaves of a node found as n and a buffer found as b
pub record Leaves (n : Node) (b : List ℕ) (identifier number : ℕ) (node : Node) (buffer : List ℕ) : Type 0 where
  pub buffer_stays : buffer ≡ b
  pub node_stays : closes number ≡ false → node ≡ n
  pub node_closes : closes number ≡ true → ClosedFor n identifier node
