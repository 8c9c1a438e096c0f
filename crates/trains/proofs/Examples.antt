-- Two trains of two vehicles, interleaved, with a functional frame of one of them between, run by the definitions themselves: all are handed out, unmixed.
use mathlib.Core.Path.{◌≡◌, refl}
use mathlib.Core.Bool.{true, false}
use mathlib.Core.List.{List, [], ◌∷◌}
use Prim.Native.Nat.{ℕ}
use lib.ListN.{replicate}
use Rattle.identifiers.specs.Choice.{pick, both, either}
use Rattle.identifiers.specs.Below.{all_below}
use Rattle.identifiers.specs.Bytes.{written}
use Rattle.identifiers.specs.Identifiers.{reserved_bit, fields_of, frame_passing, read_passing, frame_read}
use Rattle.readings.specs.Positions.{addresses, address_of, positions, position_among, position_of, position_at, trailer_at}
use Rattle.readings.specs.declared.position.Position.TheVariants.{Zero, Two}
use Rattle.receiver.specs.Receptions.{sound_reception, region_at}
use Rattle.receiver.specs.Addressings.{unit_is, diagnostic, destination_of, addressed_from, addressed_by, addressed_read, addressing_of}
use Rattle.receiver.specs.Frames.{Frame, single_of, first_length, first_of, carried_of, judged_from, judged_of}
use Rattle.receiver.specs.Steps.{gap_of, leaving, closing, opened, done_of, left_of, taken_step, followed, step_of, written_by}
use Rattle.receiver.specs.Receiving.{step_by, own_of, judged_at, judged_by, moved_by, moved_of, stored_in, received_of, buffer_after}
use Rattle.receiver.specs.Nodes.{reception_at, with_reception, sound_node, fresh_node}
use Rattle.receiver.specs.Shown.{shown_of}
use Rattle.trains.specs.Sequences.{Line, start, ◌▹◌, size}
use Rattle.trains.specs.Runs.{Held, offered, handed, handed_at, requests}

pub frame : ℕ → List ℕ → ℕ → Frame
frame identifier bytes stamp = record { identifier = identifier; bytes = bytes; stamp = stamp }

pub held : Held
held = record { node = fresh_node 1 5; buffer = replicate 1536 0 }

pub line : Line
line =
    start ▹ frame 0x18CEC9EB (0x05 ∷ 0x10 ∷ 0x08 ∷ 0xA1 ∷ 0xA2 ∷ 0xA3 ∷ 0xA4 ∷ 0xA5 ∷ []) 0xFFFFFFF0
    ▹ frame 0x18CEC9C1 (0x05 ∷ 0x10 ∷ 0x07 ∷ 0xB1 ∷ 0xB2 ∷ 0xB3 ∷ 0xB4 ∷ 0xB5 ∷ []) 0
    ▹ frame 0x18CDFFEB (0x05 ∷ 0x02 ∷ 0x3E ∷ 0x00 ∷ []) 0
    ▹ frame 0x18CEC9EB (0x05 ∷ 0x21 ∷ 0xA6 ∷ 0xA7 ∷ 0xA8 ∷ []) 0x86
    ▹ frame 0x18CEC9C1 (0x05 ∷ 0x21 ∷ 0xB6 ∷ 0xB7 ∷ []) 100

pub unmixed : requests held line
    ≡ record { at = 4; from = Two; functional = false; bytes = 0xB1 ∷ 0xB2 ∷ 0xB3 ∷ 0xB4 ∷ 0xB5 ∷ 0xB6 ∷ 0xB7 ∷ [] }
    ∷ record { at = 3; from = Zero; functional = false; bytes = 0xA1 ∷ 0xA2 ∷ 0xA3 ∷ 0xA4 ∷ 0xA5 ∷ 0xA6 ∷ 0xA7 ∷ 0xA8 ∷ [] }
    ∷ record { at = 2; from = Zero; functional = true; bytes = 0x3E ∷ 0x00 ∷ [] }
    ∷ []
unfolding pick both either all_below written reserved_bit fields_of frame_passing read_passing frame_read addresses address_of positions position_among position_of position_at trailer_at
    sound_reception reception_at with_reception sound_node fresh_node diagnostic destination_of unit_is addressed_from addressed_by addressed_read addressing_of
    single_of first_length first_of carried_of judged_from judged_of gap_of region_at leaving closing opened done_of left_of taken_step followed step_of written_by
    own_of judged_at judged_by step_by moved_by moved_of stored_in received_of buffer_after shown_of size offered handed handed_at requests frame held line
unmixed = refl
