-- Document 01's worked numbers that are marked P, all of them in its order, and document 02's on R, by computation on the definitions that the contracts cite.
use Rattle.std.specs.Prelude.{Option, Some, None, Result, Ok, Err}
use mathlib.Core.Path.{◌≡◌, refl}
use mathlib.Core.Bool.{true, false}
use mathlib.Core.List.{List, [], ◌∷◌}
use Prim.Native.Nat.{ℕ, ◌+◌}
use lib.IntN.{pos, negsuc}
use lib.Ieee.{fin, round}
use lib.ListN.{length, replicate}
use Rattle.identifiers.specs.Choice.{pick, both, either}
use Rattle.identifiers.specs.Below.{all_below, count_below, list_below, first_below}
use Rattle.identifiers.specs.Bytes as bytes
use Rattle.identifiers.specs.Refusals.{refusal}
use Rattle.identifiers.specs.Identifiers.{formula, reserved_bit, fields_of, frame_passing, read_passing, frame_read, read_of, written_as, target_of}
use Rattle.identifiers.specs.declared.identifier.Identifier.{Identifier}
use Rattle.identifiers.specs.declared.identifier.Target.TheVariants.{Destination}
use Rattle.identifiers.specs.declared.refusal.Refusal.{Refusal}
use Rattle.readings.specs.Fractions.{fraction}
use Rattle.readings.specs.Kinds as kinds
use Rattle.readings.specs.Positions.{addresses, address_of, positions, position_among, position_of, position_at, trailer_at, successor_of, next_of, taken_as, taken_after}
use Rattle.readings.specs.Routes.{own_position, comes_from, named, onward_of, passage, routed_from, routed_by, routed_read, routed_at, route_of}
use Rattle.readings.specs.declared.routing.Side.TheVariants.{Predecessor, Successor}
use Rattle.readings.specs.Readings.{without_value, valued, in_range, measured_by, measured_as, parameter_of}
use Rattle.readings.specs.declared.position.Position.TheVariants.{Zero, One, Five}
use Rattle.receiver.specs.Receptions.{sound_reception, region_at}
use Rattle.receiver.specs.Addressings.{unit_is, diagnostic, destination_of, addressed_from, addressed_by, addressed_read, addressing_of}
use Rattle.receiver.specs.Frames.{Frame, single_of, first_length, first_of, carried_of, judged_from, judged_of}
use Rattle.receiver.specs.Steps.{gap_of, leaving, closing, opened, done_of, left_of, taken_step, followed, step_of, written_by}
use Rattle.receiver.specs.Receiving.{step_by, own_of, judged_at, judged_by, moved_by, moved_of, stored_in, received_of, buffer_after}
use Rattle.receiver.specs.Nodes.{reception_at, with_reception, sound_node, fresh_node}
use Rattle.receiver.specs.Shown.{shown_of}
use Rattle.receiver.specs.Cuts.{frame_count, no_frame, physical_to, framed_as, framed, headed, piece_of, between, cut_of}
use Rattle.trains.specs.Sequences.{start, ◌▹◌, size, Request}
use Rattle.trains.specs.Runs.{Held, answer, offered, handed, handed_at, requests}
use Rattle.receiver.specs.declared.outcome.Outcome.{Outcome}
use Rattle.receiver.specs.declared.outcome.Outcome.TheVariants as outcome
use Rattle.server.specs.Mask.{sound_mask}
use Rattle.server.specs.Places as places
use Rattle.server.specs.Trailer.{ascending, codes_below, status_within, statuses_within, length_within, lengths_within, sound_record}
use Rattle.server.specs.Faults.{matches, listed, count_listed, two_bytes, code_and_status, reported, report_of, group_held, in_group, stored_below, cleared_of}
use Rattle.server.specs.DataIdentifiers.{asked_count, asked_at, data_of, identifier_and_data, answer_to, answers_of}
use Rattle.server.specs.Requests.{service_of, sub_function_of, silencing, mask_of, group_of, sized, form_of_14, form_of_19, form_of_22, form_of_3e, request_by, request_of}
use Rattle.server.specs.Silence.{silenced, quiet_code, silent_on}
use Rattle.server.specs.Server.{content_of_14, content_of_19, content_of_22, negative_of, negative_bytes, positive_of, changed_by, wrong_lengths, answered as answeredTo, served_of}
use Rattle.server.specs.declared.trailer.TrailerRecord.{TrailerRecord}
use Rattle.readings.specs.declared.reading.Reading.TheVariants.{Value}

-- the fields of `18CEC9EB`
abbrev pub fields : Identifier
fields = record { priority = 6; reserved = 0; data_page = 0; format = 206; specific = 0xC9; source = 0xEB }

-- those of `1FFFFFFF` and of `1AFE5DEB`, which have R set
abbrev pub largest : Identifier
largest = record { priority = 7; reserved = 1; data_page = 1; format = 255; specific = 255; source = 255 }

abbrev pub coming : Identifier
coming = record { priority = 6; reserved = 1; data_page = 0; format = 254; specific = 93; source = 0xEB }

-- a fresh node at position 1 with unit 05, and its buffer
abbrev pub node : Held
node = record { node = fresh_node 1 0x05; buffer = replicate 1536 0 }

-- a frame from position 0 to position 1
abbrev pub frame : List ℕ → ℕ → Frame
frame bytes stamp = record { identifier = 0x18CEC9EB; bytes = bytes; stamp = stamp }

abbrev pub first : ℕ → Frame
first stamp = frame (0x05 ∷ 0x10 ∷ 0x0B ∷ 0x22 ∷ 0xF1 ∷ 0x90 ∷ 0xF1 ∷ 0x87 ∷ []) stamp

-- the node's answer to a whole single frame under this identifier
abbrev pub received : ℕ → Result Outcome Refusal
received n = (answer node (record { identifier = n; bytes = 0x05 ∷ 0x02 ∷ 0x3E ∷ 0x00 ∷ []; stamp = 0 })).outcome

-- with a second byte `21` for number 1
abbrev pub consecutive : ℕ → ℕ → Frame
consecutive second stamp = frame (0x05 ∷ second ∷ 0xF1 ∷ 0x8C ∷ 0xF1 ∷ 0x95 ∷ 0xF1 ∷ 0x97 ∷ []) stamp

-- the 11 bytes of the request
abbrev pub request : List ℕ
request = 0x22 ∷ 0xF1 ∷ 0x90 ∷ 0xF1 ∷ 0x87 ∷ 0xF1 ∷ 0x8C ∷ 0xF1 ∷ 0x95 ∷ 0xF1 ∷ 0x97 ∷ []

-- what the two frames hand out, and what the second is answered
abbrev pub handed_out : ℕ → ℕ → ℕ → List Request
handed_out second earlier later = requests node (start ▹ first earlier ▹ consecutive second later)

abbrev pub answered : ℕ → ℕ → ℕ → Result Outcome Refusal
answered second earlier later = (answer (offered node (start ▹ first earlier)) (consecutive second later)).outcome

-- a message of so many bytes: 0, 1, 2, ..
abbrev pub message : ℕ → List ℕ
message L = list_below (λ i. i ∷ []) L

-- statuses 08, 50, 09 and availability 7F
abbrev pub trailer : TrailerRecord
trailer =
    record {
      codes = 0x000101 ∷ 0x000102 ∷ 0x000103 ∷ replicate 60 0;
      statuses = 0x08 ∷ 0x50 ∷ 0x09 ∷ replicate 60 0;
      count = 3;
      availability = 0x7F;
      identifiers = 0xF190 ∷ replicate 15 0;
      lengths = 2 ∷ replicate 15 0;
      bytes = 0x41 ∷ 0x42 ∷ replicate 510 0;
      held = 1;
    }

-- the server's answer to a physical request, and its response buffer afterwards, of which every byte was AA
abbrev pub reply : List ℕ → Result (Option ℕ) Refusal
reply asked = (served_of trailer asked false (replicate 255 0xAA)).reply

abbrev pub response : List ℕ → List ℕ
response asked = (served_of trailer asked false (replicate 255 0xAA)).response

pub record Worked : Type 0 where
  -- "`18CEC9EB`: P 6, PF 206, to position 1 from 0."
  pub identifier : read_of 0x18CEC9EB ≡ Ok fields
  pub destination : target_of fields ≡ Destination 0xC9
  pub to-position : position_of 0xC9 ≡ Some One
  pub from-position : position_of 0xEB ≡ Some Zero
  -- "`20000000`: 2."
  pub too_large : read_of 0x20000000 ≡ Err (refusal 2)
  -- "`1FFFFFFF`: 4.", by the receiver; document 02, 2026-07, changes "case `1FFFFFFF` for the reader alone"
  pub reserved : received 0x1FFFFFFF ≡ Err (refusal 4)
  pub reserved-read : read_of 0x1FFFFFFF ≡ Ok largest
  pub reserved-written : written_as largest ≡ Ok 0x1FFFFFFF
  -- its source is no vehicle; the towing vehicle's `1AFE5DEB` is "sent on", and not kept
  pub reserved-neither : route_of Predecessor 1 true 0x1FFFFFFF 0 ≡ Ok None
  pub coming-read : read_of 0x1AFE5DEB ≡ Ok coming
  pub coming-written : written_as coming ≡ Ok 0x1AFE5DEB
  pub coming-sent-on : route_of Predecessor 1 true 0x1AFE5DEB 0 ≡ Ok (Some (record { kept = false; onward = Some Successor }))
  pub coming-received : received 0x1AFE5DEB ≡ Err (refusal 4)
  -- "unit 05: `05 10 0B 22 F1 90 F1 87`, `05 21 F1 8C F1 95 F1 97`: an 11-byte request."
  pub eleven : handed_out 0x21 0 0 ≡ record { at = 1; from = Zero; functional = false; bytes = request } ∷ []
  pub eleven-bytes : length request ≡ 11
  -- "Number 2 instead: 13."
  pub wrong-number : answered 0x22 0 0 ≡ Err (refusal 13)
  -- "L 7: one consecutive frame;"
  pub seven : frame_count 7 ≡ 1 + 1
  -- "255: 42, the last with number 10 and 4 bytes."
  pub most : frame_count 255 ≡ 1 + 42
  pub last : cut_of (message 255) 42 0 1 0x05
      ≡ Ok (record { identifier = 0x18CEC9EB; length = 2 + 4; «data» = 0x05 ∷ (0x20 + 10) ∷ 251 ∷ 252 ∷ 253 ∷ 254 ∷ 0 ∷ 0 ∷ [] })
  -- "stamps `FFFFFFF0`, `00000086`: gap 150, taken;"
  pub gap : gap_of 0x00000086 0xFFFFFFF0 ≡ 150
  pub in_time : answered 0x21 0xFFFFFFF0 0x00000086 ≡ Ok (outcome.Train Zero 11)
  -- "`00000087`: late."
  pub late : answered 0x21 0xFFFFFFF0 0x00000087 ≡ Err (refusal 14)
  -- "predecessor `B1`: own `A9`."
  pub taken : taken_after 0xB1 ≡ Ok Five
  pub own : address_of Five ≡ 0xA9
  -- "`A9`: 15."
  pub no_address : taken_after 0xA9 ≡ Err (refusal 15)
  -- "gear 125: 0; 0: -125."
  pub gear : parameter_of 0 125 ≡ Ok (record { reading = Value (fin false 0 (pos 0)); whole = pos 0 })
  pub gear-least : parameter_of 0 0 ≡ Ok (record { reading = Value (fin true 125 (pos 0)); whole = negsuc 124 })
  -- "Temperature 8736: 0; 8735: -1/32; 64255: 55519/32."
  pub temperature : parameter_of 7 8736 ≡ Ok (record { reading = Value (fin false 0 (pos 0)); whole = pos 0 })
  pub temperature-below : parameter_of 7 8735 ≡ Ok (record { reading = Value (fin true 1 (negsuc 4)); whole = negsuc 0 })
  pub temperature-most : parameter_of 7 64255 ≡ Ok (record { reading = Value (fin false 55519 (negsuc 4)); whole = pos 55519 })
  -- "statuses 08, 50, 09, availability 7F: mask 08 counts 2, mask 80 counts 0."
  pub mask-08 : reply (0x19 ∷ 0x01 ∷ 0x08 ∷ []) ≡ Ok (Some 6)
  pub count-08 : response (0x19 ∷ 0x01 ∷ 0x08 ∷ []) ≡ 0x59 ∷ 0x01 ∷ 0x7F ∷ 0x03 ∷ 0 ∷ 2 ∷ replicate 249 0xAA
  pub mask-80 : reply (0x19 ∷ 0x01 ∷ 0x80 ∷ []) ≡ Ok (Some 6)
  pub count-80 : response (0x19 ∷ 0x01 ∷ 0x80 ∷ []) ≡ 0x59 ∷ 0x01 ∷ 0x7F ∷ 0x03 ∷ 0 ∷ 0 ∷ replicate 249 0xAA
  -- "`3E 80`: silent."
  pub silent : reply (0x3E ∷ 0x80 ∷ []) ≡ Ok None
  pub silent-bytes : response (0x3E ∷ 0x80 ∷ []) ≡ replicate 255 0xAA
  -- "`3E 01`: `7F 3E 12`."
  pub unknown : reply (0x3E ∷ 0x01 ∷ []) ≡ Ok (Some 3)
  pub unknown-bytes : response (0x3E ∷ 0x01 ∷ []) ≡ 0x7F ∷ 0x3E ∷ 0x12 ∷ replicate 252 0xAA
  -- "`3E`: `7F 3E 13`."
  pub short : reply (0x3E ∷ []) ≡ Ok (Some 3)
  pub short-bytes : response (0x3E ∷ []) ≡ 0x7F ∷ 0x3E ∷ 0x13 ∷ replicate 252 0xAA

pub worked : Worked
unfolding round
    pick both either all_below count_below list_below bytes.written formula reserved_bit fields_of frame_passing read_passing frame_read read_of written_as target_of
    fraction kinds.kind_of kinds.high_byte kinds.whole_of
    addresses address_of positions position_among position_of position_at trailer_at successor_of next_of taken_as taken_after
    own_position comes_from named onward_of passage routed_from routed_by routed_read routed_at route_of
    without_value valued in_range measured_by measured_as parameter_of
    sound_reception reception_at with_reception sound_node fresh_node
    diagnostic destination_of unit_is addressed_from addressed_by addressed_read addressing_of single_of first_length first_of carried_of judged_from judged_of
    gap_of region_at leaving closing opened done_of left_of taken_step followed step_of written_by
    own_of judged_at judged_by step_by moved_by moved_of stored_in received_of buffer_after
    shown_of frame_count no_frame physical_to framed_as framed headed piece_of between cut_of
    size offered handed handed_at requests
    sound_mask first_below places.place_among places.held_among ascending codes_below status_within statuses_within length_within lengths_within sound_record
    matches listed count_listed two_bytes code_and_status reported report_of group_held in_group stored_below cleared_of
    asked_count asked_at data_of identifier_and_data answer_to answers_of
    service_of sub_function_of silencing mask_of group_of sized form_of_14 form_of_19 form_of_22 form_of_3e request_by request_of silenced quiet_code silent_on
    content_of_14 content_of_19 content_of_22 negative_of negative_bytes positive_of changed_by wrong_lengths answeredTo served_of
worked =
    record {
      identifier = refl;
      destination = refl;
      to-position = refl;
      from-position = refl;
      too_large = refl;
      reserved = refl;
      reserved-read = refl;
      reserved-written = refl;
      reserved-neither = refl;
      coming-read = refl;
      coming-written = refl;
      coming-sent-on = refl;
      coming-received = refl;
      eleven = refl;
      eleven-bytes = refl;
      wrong-number = refl;
      seven = refl;
      most = refl;
      last = refl;
      gap = refl;
      in_time = refl;
      late = refl;
      taken = refl;
      own = refl;
      no_address = refl;
      gear = refl;
      gear-least = refl;
      temperature = refl;
      temperature-below = refl;
      temperature-most = refl;
      mask-08 = refl;
      count-08 = refl;
      mask-80 = refl;
      count-80 = refl;
      silent = refl;
      silent-bytes = refl;
      unknown = refl;
      unknown-bytes = refl;
      short = refl;
      short-bytes = refl;
    }
