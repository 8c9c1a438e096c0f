-- Delivery through the whole train: document 02, 2026-14, sentence by sentence.
use Rattle.std.specs.Prelude.{◌≡◌, Bool, true, false, List, [], ◌∷◌, map, ◌≢◌, ◌↔◌, ◌⊎◌, ℕ, suc, ◌-◌, ◌/◌, ◌%◌, ◌^◌, ◌≤◌, ◌<◌, eqb, length, Option, Result, Ok}
use Rattle.identifiers.specs.Choice.{pick}
use Rattle.identifiers.specs.Identifiers.{reserved_bit, fields_of}
use Rattle.readings.specs.declared.position.Position.{Position}
use Rattle.readings.specs.Positions.{place_of, address_of, taken_after}
use Rattle.readings.specs.Routes.{Keeps, routed_told, onward_number}
use Rattle.delivery.specs.Hands.{Arrival, kept_by, onward_by, delivered}
use Rattle.readings.specs.declared.routing.Passage.{Passage}
use Rattle.identifiers.specs.declared.refusal.Refusal.{Refusal}

-- "With up to five trailers at their right addresses, no two alike": the own position of each is its place, counted from the towing vehicle;
-- "each frame .. and a sender in the train": one that no router refuses by 2 or 3, with the address of the vehicle q for its SA
pub record Sent (own : ℕ → ℕ) (n number count : ℕ) (q : Position) : Type 0 where
  pub trailers : n ≤ 5
  pub right : (place : ℕ) → 1 ≤ place → place ≤ n → own place ≡ place
  pub within : place_of q ≤ n
  pub range : number < 2 ^ 29
  pub data_bytes : count ≤ 8
  pub source : (fields_of number).source ≡ address_of q

-- each time that the frame comes to the vehicle at a place, whether it is kept there
unfoldable pub comes_to : ℕ → List Arrival → List Bool
comes_to place [] = []
comes_to place (a ∷ arrivals) = pick (eqb a.at place) (a.kept ∷ comes_to place arrivals) (comes_to place arrivals)

-- what the arrivals have to be of a frame that the vehicle q sends in a train of n trailers
pub record Delivers (n number : ℕ) (q : Position) (arrivals : List Arrival) : Type 0 where
  -- "it comes to every other vehicle exactly once", and to nobody else
  pub every_other_once : (p : Position) → place_of p ≤ n → p ≢ q → length (comes_to (place_of p) arrivals) ≡ 1
  pub nobody_else : (place : ℕ) → n < place → comes_to place arrivals ≡ []
  -- "Every trailer but the sender keeps it exactly if the frame names it, is global or is a group message", and R is 0;
  -- "The tractor keeps by the same destination rule": p is any of them
  pub kept_exactly : (p : Position) → place_of p ≤ n → p ≢ q → comes_to (place_of p) arrivals ≡ true ∷ [] ↔ Keeps p number
  -- "A frame never returns to its sender."
  pub never_returns : comes_to (place_of q) arrivals ≡ []

-- "passed hand to hand by the route rule": each such frame is delivered so, for any number of hands in a row that is not below that of the trailers.
abbrev pub HandToHand : Type 0
HandToHand = (own : ℕ → ℕ) (n number count : ℕ) (q : Position) → Sent own n number count q → (hands : ℕ) → n ≤ hands → Delivers n number q (delivered own n number count hands q)

-- Two lists that `Delivers` allows say the same of each place: nothing is left open but the order.
abbrev pub OneDelivery : Type 0
OneDelivery = (n number : ℕ) (q : Position) (a b : List Arrival) → n ≤ 5 → Delivers n number q a → Delivers n number q b → (place : ℕ) → comes_to place a ≡ comes_to place b

-- A frame that names one vehicle r is kept by no other: so by nobody, where it names its own sender.
abbrev pub NamesOne : Type 0
NamesOne = (n number : ℕ) (q : Position) (arrivals : List Arrival) → Delivers n number q arrivals → (r : Position) → number / 2 ^ 16 % 2 ^ 8 < 240 → number / 2 ^ 8 % 2 ^ 8 ≡ address_of r
    → (p : Position) → place_of p ≤ n → p ≢ q → p ≢ r → comes_to (place_of p) arrivals ≡ false ∷ []

-- The trailer behind a place has taken its address: it is at the position after that of the vehicle before it.
pub record Taken (own : ℕ → ℕ) (place : ℕ) : Type 0 where
  pub before : Position
  pub itself : Position
  pub own_before : place_of before ≡ own place
  pub own_itself : place_of itself ≡ own (suc place)
  pub taken : taken_after (address_of before) ≡ Ok itself

-- Where each trailer has done so, from the towing vehicle on, all are at their right addresses.
abbrev pub RightAddresses : Type 0
RightAddresses = (own : ℕ → ℕ) (n : ℕ) → own 0 ≡ 0 → ((place : ℕ) → place < n → Taken own place) → (place : ℕ) → place ≤ n → own place ≡ place

-- ---- of any frame, whatever stands in it, and any train, whatever positions its trailers have: also before they have taken their addresses, with several alike
-- More hands make no more arrivals: the bound hides no circle.
abbrev pub NoCircle : Type 0
NoCircle = (own : ℕ → ℕ) (n number count : ℕ) (q : Position) → place_of q ≤ n → (hands : ℕ) → n ≤ hands → delivered own n number count hands q ≡ delivered own n number count n q

-- It comes to no vehicle twice, and never back to its sender.
abbrev pub NeverTwice : Type 0
NeverTwice = (own : ℕ → ℕ) (n number count hands : ℕ) (q : Position) (place : ℕ) → length (comes_to place (delivered own n number count hands q)) ≤ 1

abbrev pub NeverBack : Type 0
NeverBack = (own : ℕ → ℕ) (n number count hands : ℕ) (q : Position) → comes_to (place_of q) (delivered own n number count hands q) ≡ []

-- the same arrivals, but nobody keeps it
abbrev pub unkept : List Arrival → List Arrival
unkept arrivals = map (λ (a : Arrival). record { at = a.at; kept = false }) arrivals

-- With R set the arrivals are, in the same order, those of the same frame with R 0, which as a number is 2 ^ 25 less, and nobody keeps it.
abbrev pub SetSameArrivals : Type 0
SetSameArrivals = (own : ℕ → ℕ) (n number count : ℕ) (q : Position) (hands : ℕ) → reserved_bit number ≡ 1 → delivered own n number count hands q ≡ unkept (delivered own n (number - 2 ^ 25) count hands q)

-- What 2 or 3 refuses is handed to the sender's neighbours and no further, and nobody keeps it.
abbrev pub RefusedStopped : Type 0
RefusedStopped = (own : ℕ → ℕ) (n number count : ℕ) (q : Position) (hands : ℕ) → (2 ^ 29 ≤ number) ⊎ (8 < count) → delivered own n number count (suc hands) q ≡ unkept (delivered own n number count 1 q)

-- Kept, and sent on, is what `castanhiu_route` tells a host in numbers.
abbrev pub ToldAlike : Type 0
ToldAlike = (r : Result (Option Passage) Refusal) → ((routed_told r).kept ≡ kept_by r) × ((routed_told r).onward ≡ onward_number (onward_by r))
