-- Frames passed through trains by the definitions themselves: some written out, then every train, every sender and every destination.
use mathlib.Core.Path.{◌≡◌, refl}
use mathlib.Core.Bool.{Bool, true, false}
use mathlib.Core.List.{List, [], ◌∷◌, map}
use Prim.Native.Nat.{ℕ, ◌+◌, ◌*◌, ◌^◌}
use lib.Dec.{eqb}
use Rattle.identifiers.specs.Choice.{pick, both, either}
use Rattle.identifiers.specs.Identifiers.{reserved_bit, fields_of, frame_passing, target_of}
use Rattle.readings.specs.declared.position.Position.{Position}
use Rattle.readings.specs.declared.position.Position.TheVariants.{Zero, One, Two, Three, Four, Five}
use Rattle.readings.specs.Positions.{addresses, address_of, positions, position_among, position_of, position_at, trailer_at}
use Rattle.readings.specs.Routes.{own_position, comes_from, named, onward_of, passage, routed_from, routed_by, routed_read, routed_at, route_of}
use Rattle.delivery.specs.Hands.{Arrival, kept_by, onward_by, sent_on, kept_by_towing, has_successor, handed, to_predecessor, to_successor, delivered}
use Rattle.delivery.specs.Delivery.{unkept}

abbrev pub kept : ℕ → Arrival
kept place = record { at = place; kept = true }

abbrev pub past : ℕ → Arrival
past place = record { at = place; kept = false }

-- the own position of each trailer is its place
abbrev pub right : ℕ → ℕ
right place = place

-- a train of so many trailers, its sender with its address, and the places to which a frame comes, in order
pub record Train : Type 0 where
  pub n : ℕ
  pub sender : Position
  pub source : ℕ
  pub comes : List ℕ

abbrev pub train : ℕ → Position → ℕ → List ℕ → Train
train n sender source comes = record { n = n; sender = sender; source = source; comes = comes }

pub trains : List Train
trains =
    train 0 Zero 0xEB []
    ∷ train 1 Zero 0xEB (1 ∷ [])
    ∷ train 1 One 0xC9 (0 ∷ [])
    ∷ train 2 Zero 0xEB (1 ∷ 2 ∷ [])
    ∷ train 2 One 0xC9 (0 ∷ 2 ∷ [])
    ∷ train 2 Two 0xC1 (1 ∷ 0 ∷ [])
    ∷ train 3 Zero 0xEB (1 ∷ 2 ∷ 3 ∷ [])
    ∷ train 3 One 0xC9 (0 ∷ 2 ∷ 3 ∷ [])
    ∷ train 3 Two 0xC1 (1 ∷ 0 ∷ 3 ∷ [])
    ∷ train 3 Three 0xB9 (2 ∷ 1 ∷ 0 ∷ [])
    ∷ train 4 Zero 0xEB (1 ∷ 2 ∷ 3 ∷ 4 ∷ [])
    ∷ train 4 One 0xC9 (0 ∷ 2 ∷ 3 ∷ 4 ∷ [])
    ∷ train 4 Two 0xC1 (1 ∷ 0 ∷ 3 ∷ 4 ∷ [])
    ∷ train 4 Three 0xB9 (2 ∷ 1 ∷ 0 ∷ 4 ∷ [])
    ∷ train 4 Four 0xB1 (3 ∷ 2 ∷ 1 ∷ 0 ∷ [])
    ∷ train 5 Zero 0xEB (1 ∷ 2 ∷ 3 ∷ 4 ∷ 5 ∷ [])
    ∷ train 5 One 0xC9 (0 ∷ 2 ∷ 3 ∷ 4 ∷ 5 ∷ [])
    ∷ train 5 Two 0xC1 (1 ∷ 0 ∷ 3 ∷ 4 ∷ 5 ∷ [])
    ∷ train 5 Three 0xB9 (2 ∷ 1 ∷ 0 ∷ 4 ∷ 5 ∷ [])
    ∷ train 5 Four 0xB1 (3 ∷ 2 ∷ 1 ∷ 0 ∷ 5 ∷ [])
    ∷ train 5 Five 0xA9 (4 ∷ 3 ∷ 2 ∷ 1 ∷ 0 ∷ [])
    ∷ []

-- an identifier without its SA, and at which places a frame is kept under it
pub record Frames : Type 0 where
  pub number : ℕ
  pub keeps : ℕ → Bool

abbrev pub frames : ℕ → (ℕ → Bool) → Frames
frames number keeps = record { number = number; keeps = keeps }

abbrev pub only : ℕ → ℕ → Bool
only keeper place = eqb place keeper

-- to each vehicle, to all, to a group, and to an address that nobody has
pub destinations : List Frames
destinations =
    frames 0x18CEEB00 (only 0)
    ∷ frames 0x18CEC900 (only 1)
    ∷ frames 0x18CEC100 (only 2)
    ∷ frames 0x18CEB900 (only 3)
    ∷ frames 0x18CEB100 (only 4)
    ∷ frames 0x18CEA900 (only 5)
    ∷ frames 0x18CDFF00 (λ place. true)
    ∷ frames 0x18FE5D00 (λ place. true)
    ∷ frames 0x18CEC800 (λ place. false)
    ∷ []

pub made : ℕ → Train → List (List Arrival)
made R t = map (λ (f : Frames). delivered right t.n (R * 2 ^ 25 + f.number + t.source) 8 9 t.sender) destinations

pub expected : Train → List (List Arrival)
expected t = map (λ (f : Frames). map (λ (place : ℕ). record { at = place; kept = f.keeps place }) t.comes) destinations

pub record Worked : Type 0 where
  -- five trailers, the second sends: to the third, to all, and to all with R set
  pub to_one : delivered right 5 0x18CEB9C1 8 5 Two ≡ (past 1 ∷ past 0 ∷ kept 3 ∷ past 4 ∷ past 5 ∷ [])
  pub to_all : delivered right 5 0x18CDFFC1 8 5 Two ≡ (kept 1 ∷ kept 0 ∷ kept 3 ∷ kept 4 ∷ kept 5 ∷ [])
  pub to-all-set : delivered right 5 0x1ACDFFC1 8 5 Two ≡ (past 1 ∷ past 0 ∷ past 3 ∷ past 4 ∷ past 5 ∷ [])
  -- two trailers: the towing vehicle to a group, the first to itself; and no trailer
  pub to-a-group : delivered right 2 0x18FE5DEB 8 2 Zero ≡ (kept 1 ∷ kept 2 ∷ [])
  pub to-itself : delivered right 2 0x18CEC9C9 8 2 One ≡ (past 0 ∷ past 2 ∷ [])
  pub no-trailer : delivered right 0 0x18CEC9EB 8 0 Zero ≡ []
  -- two trailers at position 1, before they have taken their addresses: what the second sends the first stops, and the towing vehicle never gets it
  pub two-alike : delivered (λ place. 1) 2 0x18CEEBC9 8 2 Two ≡ (past 1 ∷ [])
  -- every train, sender and destination, with R 0; and with R set, where nobody keeps them
  pub each-train : map (made 0) trains ≡ map expected trains
  pub each-train-set : map (made 1) trains ≡ map (λ (t : Train). map unkept (expected t)) trains

pub worked : Worked
unfolding pick both either reserved_bit fields_of frame_passing target_of addresses address_of positions position_among position_of position_at trailer_at
    own_position comes_from named onward_of passage routed_from routed_by routed_read routed_at route_of
    kept_by onward_by sent_on kept_by_towing has_successor handed to_predecessor to_successor delivered trains destinations made expected
worked =
    record {
      to_one = refl;
      to_all = refl;
      to-all-set = refl;
      to-a-group = refl;
      to-itself = refl;
      no-trailer = refl;
      two-alike = refl;
      each-train = refl;
      each-train-set = refl;
    }
