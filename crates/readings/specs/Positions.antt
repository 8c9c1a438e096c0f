-- The positions of a road train, their addresses and neighbours (document 01, "Identifier, vehicle, route"; 003, table 3).
use Rattle.std.specs.Prelude.{List, [], ◌∷◌, ℕ, ◌+◌, ◌-◌, eqb, get_or, Option, Some, None, Result, Ok, Err}
use Rattle.identifiers.specs.Choice.{pick}
use Rattle.identifiers.specs.Refusals.{refusal, number_of}
use Rattle.readings.specs.declared.position.Position.{Position}
use Rattle.readings.specs.declared.position.Position.TheVariants.{Zero, One, Two, Three, Four, Five}
use Rattle.readings.specs.declared.position.AddressTakenTold.{AddressTakenTold}
use Rattle.identifiers.specs.declared.refusal.Refusal.{Refusal}

abbrev pub place_of : Position → ℕ
place_of Zero = 0
place_of One = 1
place_of Two = 2
place_of Three = 3
place_of Four = 4
place_of Five = 5

-- "0 EB, 1 C9, 2 C1, 3 B9, 4 B1, 5 A9; FF is global"
unfoldable pub addresses : List ℕ
addresses = 0xEB ∷ 0xC9 ∷ 0xC1 ∷ 0xB9 ∷ 0xB1 ∷ 0xA9 ∷ []

abbrev pub global : ℕ
global = 0xFF

unfoldable pub address_of : Position → ℕ
address_of p = get_or addresses (place_of p) global

unfoldable pub positions : List Position
positions = Zero ∷ One ∷ Two ∷ Three ∷ Four ∷ Five ∷ []

-- the first of the positions whose address it is
unfoldable pub position_among : List Position → ℕ → Option Position
position_among [] address = None
position_among (p ∷ ps) address = pick (eqb address (address_of p)) (Some p) (position_among ps address)

unfoldable pub position_of : ℕ → Option Position
position_of address = position_among positions address

-- the position of a number 0 to 5, and that of a trailer, 1 to 5
unfoldable pub position_at : ℕ → Option Position
position_at place = get_or (Some Zero ∷ Some One ∷ Some Two ∷ Some Three ∷ Some Four ∷ Some Five ∷ []) place None

unfoldable pub trailer_at : ℕ → Option Position
trailer_at place = pick (eqb place 0) None (position_at place)

-- "its neighbours": one place further on, one place before
unfoldable pub successor_of : Position → Option Position
successor_of p = position_at (place_of p + 1)

unfoldable pub predecessor_of : Position → Option Position
predecessor_of p = pick (eqb (place_of p) 0) None (position_at (place_of p - 1))

-- "A trailer starts at position 1"
abbrev pub start_position : Position
start_position = One

-- "hands in its SA; the own position becomes the next one": of the vehicle that has the address, if there is one
unfoldable pub next_of : Option Position → Option Position
next_of (Some p) = successor_of p
next_of None = None

-- "SA A9, or no vehicle address, is refusal 15"
unfoldable pub taken_as : Option Position → Result Position Refusal
taken_as (Some p) = Ok p
taken_as None = Err (refusal 15)

unfoldable pub taken_after : ℕ → Result Position Refusal
taken_after source = taken_as (next_of (position_of source))

-- the answer in document 01's numbers
unfoldable pub address_told : Result Position Refusal → AddressTakenTold
address_told (Ok p) = record { refusal = 0; own = place_of p }
address_told (Err why) = record { refusal = number_of why; own = 0 }
