-- From whom a frame is, and whether it is for this node: checks 2 to 8 (document 01, "Frames and trains", "Refusal numbers").
use Rattle.std.specs.Prelude.{ℕ, Bool, List, length, ◌==◌, nat_le, slice_index, Result, Ok, Err, Option, Some, None}
use Rattle.identifiers.specs.Choice.{pick, unless, both, either}
use Rattle.identifiers.specs.Refusals.{refusal}
use Rattle.identifiers.specs.Identifiers.{frame_read}
use Rattle.identifiers.specs.declared.identifier.Identifier.{Identifier}
use Rattle.identifiers.specs.declared.refusal.Refusal.{Refusal}
use Rattle.readings.specs.Positions.{place_of, address_of, global, position_of}
use Rattle.readings.specs.declared.position.Position.{Position}
use Rattle.receiver.specs.declared.addressing.Addressing.{Addressing}

-- "DP 0, PF 206 physical .., PF 205 functional"
unfoldable pub diagnostic : Identifier → Bool
diagnostic i = both (i.data_page == 0) (either (i.format == 205) (i.format == 206))

-- "physical with PS the own address, .. functional with PS FF"
unfoldable pub destination_of : Position → Bool → ℕ
destination_of own functional = pick functional global (address_of own)

-- "The first data byte is the unit, which must be the own unit"
unfoldable pub unit_is : ℕ → List ℕ → Bool
unit_is unit bytes = both (nat_le 1 (length bytes)) (slice_index bytes 0 == unit)

-- a frame of this vehicle, functional or not
abbrev pub from_vehicle : Position → Bool → Result Addressing Refusal
from_vehicle from functional = Ok (record { from = from; functional = functional })

-- "SA is another vehicle": 6 "SA no vehicle, or own", then 7 "PS not as above", 8 "no unit byte, or another unit"
unfoldable pub addressed_from : Position → ℕ → Identifier → List ℕ → Option Position → Result Addressing Refusal
addressed_from own unit i bytes None = Err (refusal 6)
addressed_from own unit i bytes (Some from) =
    pick (place_of from == place_of own) (Err (refusal 6))
    (unless (i.specific == destination_of own (i.format == 205)) (Err (refusal 7))
    (unless (unit_is unit bytes) (Err (refusal 8))
    (from_vehicle from (i.format == 205))))

-- 5 "not diagnostic (DP, PF)", then 6 to 8
unfoldable pub addressed_by : Position → ℕ → Identifier → List ℕ → Result Addressing Refusal
addressed_by own unit i bytes = unless (diagnostic i) (Err (refusal 5)) (addressed_from own unit i bytes (position_of i.source))

-- 2, 3 and 4 of the frame, then 5 to 8
unfoldable pub addressed_read : Position → ℕ → List ℕ → Result Identifier Refusal → Result Addressing Refusal
addressed_read own unit bytes (Err why) = Err why
addressed_read own unit bytes (Ok i) = addressed_by own unit i bytes

unfoldable pub addressing_of : Position → ℕ → ℕ → List ℕ → Result Addressing Refusal
addressing_of own unit identifier bytes = addressed_read own unit bytes (frame_read identifier (length bytes))
