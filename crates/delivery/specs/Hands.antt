-- A frame passed hand to hand through a road train, by the very answers of the route's contract (document 02, 2026-14).
use Rattle.std.specs.Prelude.{Bool, true, false, List, [], ◌∷◌, ◌++◌, ℕ, zero, suc, ltb, Option, Some, None, Result, Ok, Err}
use Rattle.identifiers.specs.Choice.{pick}
use Rattle.identifiers.specs.Identifiers.{frame_passing}
use Rattle.readings.specs.declared.position.Position.{Position}
use Rattle.readings.specs.declared.position.Position.TheVariants.{Zero}
use Rattle.readings.specs.declared.routing.Side.{Side}
use Rattle.readings.specs.declared.routing.Side.TheVariants.{Predecessor, Successor}
use Rattle.readings.specs.Positions.{place_of}
use Rattle.readings.specs.Routes.{passage, route_of}
use Rattle.identifiers.specs.declared.identifier.Identifier.{Identifier}
use Rattle.readings.specs.declared.routing.Passage.{Passage}
use Rattle.identifiers.specs.declared.refusal.Refusal.{Refusal}

-- the frame comes to the vehicle at a place, which keeps it or not
pub record Arrival : Type 0 where
  pub at : ℕ
  pub kept : Bool

-- what a route's answer says: whether the frame is kept, and to which side it is sent on
unfoldable pub kept_by : Result (Option Passage) Refusal → Bool
kept_by (Ok (Some p)) = p.kept
kept_by (Ok None) = false
kept_by (Err why) = false

unfoldable pub onward_by : Result (Option Passage) Refusal → Option Side
onward_by (Ok (Some p)) = p.onward
onward_by (Ok None) = None
onward_by (Err why) = None

-- the arrivals that come of it: none, those by the predecessor's hands, those by the successor's
unfoldable pub sent_on : Option Side → List Arrival → List Arrival → List Arrival
sent_on None ahead behind = []
sent_on (Some Predecessor) ahead behind = ahead
sent_on (Some Successor) ahead behind = behind

-- "The tractor keeps by the same destination rule": as a trailer at position 0 would a frame from its successor, where 2 and 3 do not refuse it
unfoldable pub kept_by_towing : Result Identifier Refusal → Bool
kept_by_towing (Ok i) = (passage Successor Zero true i).kept
kept_by_towing (Err why) = false

-- in a train of the towing vehicle and n trailers all but the last vehicle have one behind them
unfoldable pub has_successor : ℕ → ℕ → Bool
has_successor n place = ltb place n

-- one frame in such a train, by its number and how many data bytes it has; the trailer at a place has the own position `own place`
module _ (own : ℕ → ℕ) (n number count : ℕ) where
  -- what `route` answers that trailer
  abbrev pub route_at : ℕ → Side → Result (Option Passage) Refusal
  route_at place side = route_of side (own place) (has_successor n place) number count

  -- all arrivals of the frame that is handed to the vehicle at a place from that side of it, by that vehicle to the next and so on, at most so many hands in a row;
  -- the tractor "sends nothing back"
  unfoldable pub handed : ℕ → ℕ → Side → List Arrival
  handed zero place side = []
  handed (suc hands) zero side = record { at = 0; kept = kept_by_towing (frame_passing number count) } ∷ []
  handed (suc hands) (suc p) side =
      record { at = suc p; kept = kept_by (route_at (suc p) side) }
      ∷ sent_on (onward_by (route_at (suc p) side)) (handed hands p Successor) (handed hands (suc (suc p)) Predecessor)

  -- the sender at a place hands its frame once to each neighbour that it has
  unfoldable pub to_predecessor : ℕ → ℕ → List Arrival
  to_predecessor hands zero = []
  to_predecessor hands (suc p) = handed hands p Successor

  unfoldable pub to_successor : ℕ → ℕ → List Arrival
  to_successor hands place = pick (has_successor n place) (handed hands (suc place) Predecessor) []

  -- all arrivals of the frame that the vehicle q sends
  unfoldable pub delivered : ℕ → Position → List Arrival
  delivered hands q = to_predecessor hands (place_of q) ++ to_successor hands (place_of q)
