-- The node's state and its rules, how it starts, and how it takes an address (document 01, "Identifier, vehicle, route", "Frames and trains").
use Rattle.std.specs.Prelude.{ℕ, Bool, List, replicate, ◌==◌, nat_le, slice_index_or, slice_set, Result, Ok, Err, Option, Some, None}
use Rattle.identifiers.specs.Choice.{pick, both}
use Rattle.identifiers.specs.Below.{all_below}
use Rattle.identifiers.specs.Refusals.{refusal}
use Rattle.identifiers.specs.declared.refusal.Refusal.{Refusal}
use Rattle.readings.specs.Positions.{place_of, trailer_at, taken_after}
use Rattle.receiver.specs.declared.reception.Reception.{Reception}
use Rattle.receiver.specs.Receptions.{closed, sound_reception}
use Rattle.readings.specs.declared.position.Position.{Position}

pub record Node : Type 0 where
  pub own : ℕ
  pub unit : ℕ
  pub receptions : List Reception

-- a node, and whether it was made or changed as asked
pub record Changed : Type 0 where
  pub node : Node
  pub answer : Result (Unit {0}) Refusal

-- "There is one reception per vehicle, positions 0..5"
unfoldable pub reception_at : Node → ℕ → Reception
reception_at n p = slice_index_or n.receptions p closed

unfoldable pub with_reception : Node → ℕ → Reception → Node
with_reception n p r = record { own = n.own; unit = n.unit; receptions = slice_set n.receptions p r }

-- 1 "lent state breaks its rules, own position not 1..5"
unfoldable pub sound_node : Node → Bool
sound_node n = both (nat_le 1 n.own) (both (nat_le n.own 5) (all_below (λ p. sound_reception (reception_at n p)) 6))

-- "A node is fresh, at any position 1 to 5 and with any unit, when all receptions are closed"
unfoldable pub fresh_node : ℕ → ℕ → Node
fresh_node own unit = record { own = own; unit = unit; receptions = replicate 6 closed }

-- "A trailer starts at position 1 with all receptions closed"
unfoldable pub start_of : ℕ → Node
start_of unit = fresh_node 1 unit

-- a refusal leaves the state as found
unfoldable pub unchanged : Node → Refusal → Changed
unchanged n why = record { node = n; answer = Err why }

unfoldable pub done : Node → Changed
done n = record { node = n; answer = Ok tt }

-- 1 "own position not 1..5"
unfoldable pub made_at : Node → Option Position → Changed
made_at n (Some p) = done n
made_at n None = unchanged n (refusal 1)

unfoldable pub fresh_of : ℕ → ℕ → Changed
fresh_of own unit = made_at (fresh_node own unit) (trailer_at own)

-- "A new position closes all receptions; the same one changes nothing"; 15 leaves all as found
unfoldable pub taken_to : Node → Result Position Refusal → Changed
taken_to n (Ok p) = pick (place_of p == n.own) (done n) (done (fresh_node (place_of p) n.unit))
taken_to n (Err why) = unchanged n why

unfoldable pub taken_by : Node → ℕ → Changed
taken_by n source = pick (sound_node n) (taken_to n (taken_after source)) (unchanged n (refusal 1))
