-- The route of a frame: whether it is kept, and to which side it is sent on (document 01, "Identifier, vehicle, route"; document 02, 2026-07).
use Rattle.std.specs.Prelude.{◌≡◌, Bool, true, false, ℕ, ◌/◌, ◌%◌, ◌^◌, ◌≤◌, ◌<◌, ltb, eqb, Option, Some, None, Result, Ok, Err}
use Rattle.identifiers.specs.Choice.{pick, unless, both, either}
use Rattle.identifiers.specs.Refusals.{refusal, number_of}
use Rattle.identifiers.specs.Identifiers.{reserved_bit, frame_passing, target_of}
use Rattle.identifiers.specs.declared.identifier.Identifier.{Identifier}
use Rattle.identifiers.specs.declared.identifier.Target.{Target}
use Rattle.identifiers.specs.declared.identifier.Target.TheVariants.{Destination, GroupExtension}
use Rattle.readings.specs.declared.position.Position.{Position}
use Rattle.readings.specs.declared.routing.Side.{Side}
use Rattle.readings.specs.declared.routing.Side.TheVariants.{Predecessor, Successor}
use Rattle.readings.specs.declared.routing.Passage.{Passage}
use Rattle.readings.specs.declared.routing.RoutedTold.{RoutedTold}
use Rattle.readings.specs.Positions.{place_of, address_of, global, trailer_at, position_of}
use Rattle.identifiers.specs.declared.refusal.Refusal.{Refusal}

-- 1 "own position not 1..5, or 5 with a successor": otherwise the own position
unfoldable pub own_position : ℕ → Bool → Option Position
own_position own successor = pick (both (eqb own 5) successor) None (trailer_at own)

-- "from the predecessor, SA's position must be lower than the own; from the successor, higher", and
-- "a frame that claims to come from the successor where none exists is neither"
unfoldable pub comes_from : Side → ℕ → Bool → ℕ → Bool
comes_from Predecessor own successor source = ltb source own
comes_from Successor own successor source = both successor (ltb own source)

-- "It is kept when the destination is the own address or FF, or PF is 240 or more"
unfoldable pub named : ℕ → Target → Bool
named own (Destination address) = either (eqb address own) (eqb address global)
named own (GroupExtension extension) = true

-- "sent on unchanged to the other side where a neighbour exists (the predecessor always does)"
unfoldable pub onward_of : Side → Bool → Option Side
onward_of Predecessor successor = pick successor (Some Successor) None
onward_of Successor successor = Some Predecessor

-- document 02, 2026-07, of frames with R set: "the router sends such frames on by the same rule but never keeps them"
unfoldable pub passage : Side → Position → Bool → Identifier → Passage
passage side own successor i = record { kept = both (eqb i.reserved 0) (named (address_of own) (target_of i)); onward = onward_of side successor }

-- "Else, and for an SA that is no vehicle, it is neither kept nor sent on"
unfoldable pub routed_from : Side → Position → Bool → Identifier → Option Position → Option Passage
routed_from side own successor i (Some source) = unless (comes_from side (place_of own) successor (place_of source)) None (Some (passage side own successor i))
routed_from side own successor i None = None

unfoldable pub routed_by : Side → Position → Bool → Identifier → Option Passage
routed_by side own successor i = routed_from side own successor i (position_of i.source)

-- 2 and 3 of the frame, and else its route
unfoldable pub routed_read : Side → Position → Bool → Result Identifier Refusal → Result (Option Passage) Refusal
routed_read side own successor (Ok i) = Ok (routed_by side own successor i)
routed_read side own successor (Err why) = Err why

unfoldable pub routed_at : Side → Bool → Result Identifier Refusal → Option Position → Result (Option Passage) Refusal
routed_at side successor answer (Some own) = routed_read side own successor answer
routed_at side successor answer None = Err (refusal 1)

-- a frame from a side, by the own position, whether a successor exists, the frame's number and how many data bytes it has
unfoldable pub route_of : Side → ℕ → Bool → ℕ → ℕ → Result (Option Passage) Refusal
route_of side own successor number count = routed_at side successor (frame_passing number count) (own_position own successor)

-- the answer in document 01's numbers; sent on: 0 nowhere, 1 to the predecessor, 2 to the successor
abbrev pub onward_number : Option Side → ℕ
onward_number None = 0
onward_number (Some Predecessor) = 1
onward_number (Some Successor) = 2

unfoldable pub routed_told : Result (Option Passage) Refusal → RoutedTold
routed_told (Ok (Some p)) = record { refusal = 0; kept = p.kept; onward = onward_number p.onward }
routed_told (Ok None) = record { refusal = 0; kept = false; onward = 0 }
routed_told (Err why) = record { refusal = number_of why; kept = false; onward = 0 }

-- ---- the same in the wire's numbers, for a reader
-- "from the predecessor, SA's position must be lower than the own; from the successor", which must exist, "higher"
abbrev pub ComesFrom : Side → ℕ → Bool → ℕ → Type 0
ComesFrom Predecessor own successor source = source < own
ComesFrom Successor own successor source = (successor ≡ true) × (own < source)

-- "the destination is the own address or FF, or PF is 240 or more": of an identifier's number
pub data Named (own : Position) (n : ℕ) : Type 0 where
  to_own : n / 2 ^ 16 % 2 ^ 8 < 240 → n / 2 ^ 8 % 2 ^ 8 ≡ address_of own → Named own n
  to_all : n / 2 ^ 16 % 2 ^ 8 < 240 → n / 2 ^ 8 % 2 ^ 8 ≡ 0xFF → Named own n
  to_group : 240 ≤ n / 2 ^ 16 % 2 ^ 8 → Named own n

-- "It is kept when" that is so, and, by 2026-07, R is 0
pub record Keeps (own : Position) (n : ℕ) : Type 0 where
  pub reserved : reserved_bit n ≡ 0
  pub names : Named own n
