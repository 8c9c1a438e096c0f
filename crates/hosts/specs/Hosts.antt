-- A host that offers a sequence of frames by `castanhiu_receive`, one after the other, and what it is handed: demand 3 as the host sees it, in numbers.
use Rattle.std.specs.Prelude.{◌≡◌, Bool, List, [], ◌∷◌, ◌++◌, ℕ, ◌≤◌, eqb, length}
use Rattle.identifiers.specs.Choice.{pick}
use Rattle.readings.specs.Positions.{place_of}
use Rattle.readings.specs.declared.position.Position.{Position}
use Rattle.receiver.specs.declared.outcome.OutcomeTold.{OutcomeTold}
use Rattle.receiver.specs.Nodes.{fresh_node}
use Rattle.receiver.specs.Frames.{Frame}
use Rattle.receiver.specs.Outcomes.{outcome_told}
use Rattle.receiver.specs.Receiving.{Received}
use Rattle.receiver.specs.Lent.{numbers_of, node_in, lent_received, lent_buffer}
use Rattle.receiver.specs.Shown.{told_message}
use Rattle.trains.specs.Sequences.{Line, start, ◌▹◌, size, Request}

-- what the host lends: the twenty numbers of the node, and the buffer
pub record Memory : Type 0 where
  pub numbers : List ℕ
  pub buffer : List ℕ

-- "Start a node fresh": as `castanhiu_fresh` leaves it at a position 1 to 5, with any unit 0 to 255, held with any buffer of 1,536 bytes
pub record Started (own : Position) (unit : ℕ) (x : Memory) : Type 0 where
  pub trailer : 1 ≤ place_of own
  pub byte : unit ≤ 255
  pub numbers : x.numbers ≡ numbers_of (fresh_node (place_of own) unit)
  pub room : length x.buffer ≡ 1536

-- what `castanhiu_receive` does with a frame
abbrev pub received : Memory → Frame → Received
received x f = lent_received (node_in x.numbers) x.buffer f.identifier f.bytes f.stamp

-- what it answers
abbrev pub told : Memory → Frame → OutcomeTold
told x f = outcome_told (received x f).outcome

-- the memory that it leaves; nobody else writes there
abbrev pub left : Memory → Frame → Memory
left x f = record { numbers = numbers_of (received x f).node; buffer = lent_buffer (node_in x.numbers) x.buffer f.identifier f.bytes f.stamp }

unfoldable pub hosted : Memory → Line → Memory
hosted x start = x
hosted x (h ▹ f) = left (hosted x h) f

-- a request as the host has it: the place of its last frame, the sender's number, functional or not, the bytes that `start` and `length` point to
pub record Got : Type 0 where
  pub at : ℕ
  pub from : ℕ
  pub functional : Bool
  pub bytes : List ℕ

-- what the host takes from an outcome: nothing where `handed_out` is 0
unfoldable pub got_from : ℕ → OutcomeTold → List ℕ → List ℕ → List Got
got_from at t bytes buffer = pick (eqb t.handed_out 0) [] (record { at = at; from = t.from; functional = t.functional; bytes = told_message t bytes buffer } ∷ [])

-- on the whole sequence, the latest first
unfoldable pub got : Memory → Line → List Got
got x start = []
got x (h ▹ f) = got_from (size h) (told (hosted x h) f) f.bytes (hosted x (h ▹ f)).buffer ++ got x h

-- a request in numbers, and a list of them
abbrev pub numbered : Request → Got
numbered r = record { at = r.at; from = place_of r.from; functional = r.functional; bytes = r.bytes }

unfoldable pub in_numbers : List Request → List Got
in_numbers [] = []
in_numbers (r ∷ rs) = numbered r ∷ in_numbers rs
