-- The cutter (document 01, "Frames and trains"): "message and frame number give one frame, priority 6, no padding".
use Rattle.std.specs.Prelude.{◌≡◌, ℕ, ◌+◌, ◌-◌, ◌*◌, ◌/◌, ◌%◌, ◌<◌, ◌≤◌, List, [], ◌∷◌, ◌++◌, length, take, drop, replicate, ◌==◌, nat_le, nat_lt, Result, Ok, Err, Option, Some, None}
use Rattle.identifiers.specs.Choice.{pick, either}
use Rattle.identifiers.specs.Bytes.{written}
use Rattle.identifiers.specs.Refusals.{refusal, number_of}
use Rattle.identifiers.specs.Identifiers.{written_as}
use Rattle.identifiers.specs.declared.identifier.Identifier.{Identifier}
use Rattle.identifiers.specs.declared.refusal.Refusal.{Refusal}
use Rattle.readings.specs.Positions.{address_of, position_at}
use Rattle.readings.specs.declared.position.Position.{Position}
use Rattle.receiver.specs.declared.cutter.FrameCut.{FrameCut}
use Rattle.receiver.specs.declared.cutter.FrameCutTold.{FrameCutTold}
use Rattle.receiver.specs.declared.cutter.Way.{Way}
use Rattle.receiver.specs.declared.outcome.Control.{Control}
use Rattle.receiver.specs.declared.outcome.Control.TheVariants.{Continue, Overflow}
use Rattle.receiver.specs.Frames.{Frame}

-- "one single frame up to 6 bytes, else a first frame and consecutive frames 1 to ceiling((L-5)/6)"; none for 0 or over 255
unfoldable pub frame_count : ℕ → ℕ
frame_count L = pick (either (L == 0) (nat_lt 255 L)) 0 (pick (nat_le L 6) 1 (1 + (L - 5 + 5) / 6))

-- 16: no frame
unfoldable pub no_frame : Result FrameCut Refusal
no_frame = Err (refusal 16)

-- from one position to another: priority 6, R 0, DP 0, PF 206
unfoldable pub physical_to : Position → Position → Identifier
physical_to sender receiver = record { priority = 6; reserved = 0; data_page = 0; format = 206; specific = address_of receiver; source = address_of sender }

unfoldable pub framed_as : ℕ → List ℕ → Result ℕ Refusal → Result FrameCut Refusal
framed_as count «data» (Ok n) = Ok (record { identifier = n; length = count; «data» = «data» })
framed_as count «data» (Err why) = no_frame

unfoldable pub framed : Position → Position → ℕ → List ℕ → Result FrameCut Refusal
framed sender receiver count «data» = framed_as count «data» (written_as (physical_to sender receiver))

-- a frame whose data are these bytes and no more
unfoldable pub headed : Position → Position → List ℕ → List ℕ → Result FrameCut Refusal
headed sender receiver head bytes = framed sender receiver (length (head ++ bytes)) (written (replicate 8 0) 0 (head ++ bytes))

-- frame number k of a message that has so many
unfoldable pub piece_of : Position → Position → ℕ → List ℕ → ℕ → Result FrameCut Refusal
piece_of sender receiver unit message k =
    pick (nat_le (length message) 6) (headed sender receiver (unit ∷ length message ∷ []) message)
    (pick (k == 0) (headed sender receiver (unit ∷ 0x10 ∷ length message ∷ []) (take 5 message))
    (headed sender receiver (unit ∷ (0x20 + k % 16) ∷ []) (take 6 (drop (5 + 6 * (k - 1)) message))))

-- 16 "positions over 5 or equal"
unfoldable pub between : Option Position → Option Position → (Position → Position → Result FrameCut Refusal) → Result FrameCut Refusal
between (Some sender) (Some receiver) frame = frame sender receiver
between (Some sender) None frame = no_frame
between None to frame = no_frame

-- the same two positions and a unit, as the cutter has them
unfoldable pub ways : Option Position → Option Position → ℕ → Result Way Refusal
ways (Some sender) (Some receiver) unit = Ok (record { sender = sender; receiver = receiver; unit = unit })
ways (Some sender) None unit = Err (refusal 16)
ways None to unit = Err (refusal 16)

unfoldable pub way_of : ℕ → ℕ → ℕ → Result Way Refusal
way_of from to unit = pick (from == to) (Err (refusal 16)) (ways (position_at from) (position_at to) unit)

-- 16 "message of 0 or over 255, frame past the last"
unfoldable pub cut_of : List ℕ → ℕ → ℕ → ℕ → ℕ → Result FrameCut Refusal
cut_of message k from to unit =
    pick (either (from == to) (nat_le (frame_count (length message)) k)) no_frame
    (between (position_at from) (position_at to) (λ sender receiver. piece_of sender receiver unit message k))

-- 16 "message of 0 or over 255, frame past the last, positions over 5 or equal"
pub data Uncut (message : List ℕ) (k from to : ℕ) : Type 0 where
  empty : length message ≡ 0 → Uncut message k from to
  too_long : 255 < length message → Uncut message k from to
  past_last : frame_count (length message) ≤ k → Uncut message k from to
  no_sender : 5 < from → Uncut message k from to
  no_receiver : 5 < to → Uncut message k from to
  same_position : from ≡ to → Uncut message k from to

-- the identifier and the bytes of a cut frame on the wire, no padding; where there is none, 0 and no bytes
abbrev pub identifier_on_wire : Result FrameCut Refusal → ℕ
identifier_on_wire (Ok c) = c.identifier
identifier_on_wire (Err why) = 0

abbrev pub bytes_on_wire : Result FrameCut Refusal → List ℕ
bytes_on_wire (Ok c) = take c.length c.«data»
bytes_on_wire (Err why) = []

-- a cut frame on the wire, sent at a stamp
abbrev pub on_wire : Result FrameCut Refusal → ℕ → Frame
on_wire c stamp = record { identifier = identifier_on_wire c; bytes = bytes_on_wire c; stamp = stamp }

-- "overflow control (32 00 00 after the unit)", "continue control (30 00 00)"
unfoldable pub control_byte : Control → ℕ
control_byte Continue = 0x30
control_byte Overflow = 0x32

unfoldable pub flow_control_of : Control → ℕ → ℕ → ℕ → Result FrameCut Refusal
flow_control_of control from to unit =
    pick (from == to) no_frame
    (between (position_at from) (position_at to) (λ sender receiver. headed sender receiver (unit ∷ []) (control_byte control ∷ 0 ∷ 0 ∷ [])))

-- the answer in document 01's numbers, all 0 but the refusal where there is no frame
unfoldable pub cut_told : Result FrameCut Refusal → FrameCutTold
cut_told (Ok c) = record { refusal = 0; length = c.length; identifier = c.identifier; «data» = c.«data» }
cut_told (Err why) = record { refusal = number_of why; length = 0; identifier = 0; «data» = replicate 8 0 }
