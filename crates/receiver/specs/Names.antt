-- Where refusals 1 to 10 and 12 to 14 are due, by the node, the identifier and the bytes: each says that its own check fails and that all before it hold (document 01, "Refusal numbers").
use Rattle.std.specs.Prelude.{◌≡◌, ℕ, ◌+◌, ◌-◌, ◌*◌, ◌/◌, ◌%◌, ◌^◌, ◌<◌, ◌≤◌, min, Bool, true, false, ◌≢◌, List, length, slice_index}
use Rattle.identifiers.specs.Choice.{pick}
use Rattle.identifiers.specs.Refusals.{refusal}
use Rattle.identifiers.specs.Identifiers.{reserved_bit, fields_of}
use Rattle.identifiers.specs.declared.refusal.Refusal.{Refusal}
use Rattle.readings.specs.Positions.{place_of, address_of, global}
use Rattle.readings.specs.declared.position.Position.{Position}
use Rattle.receiver.specs.declared.reception.Reception.{Reception}
use Rattle.receiver.specs.Nodes.{Node, reception_at}
use Rattle.receiver.specs.Receptions.{buffer_length}
use Rattle.receiver.specs.Steps.{gap_of}
use Rattle.receiver.specs.Wire.{Addressed, IsConsecutive}

-- checks 2, 3 and 4 hold
pub record Readable (n : ℕ) (bytes : List ℕ) : Type 0 where
  pub range : n < 2 ^ 29
  pub count : length bytes ≤ 8
  pub reserved : reserved_bit n ≢ 1

-- and check 5: "DP 0, PF 206 physical .., PF 205 functional"
pub record Diagnostic (n : ℕ) (bytes : List ℕ) (functional : Bool) : Type 0 where
  pub readable : Readable n bytes
  pub page : (fields_of n).data_page ≡ 0
  pub format : (fields_of n).format ≡ pick functional 205 206

-- and check 6: "SA is another vehicle"
pub record FromOther (own : Position) (n : ℕ) (bytes : List ℕ) (p : Position) (functional : Bool) : Type 0 where
  pub diagnostic : Diagnostic n bytes functional
  pub source : (fields_of n).source ≡ address_of p
  pub other : place_of p ≢ place_of own

-- "physical with PS the own address, .. functional with PS FF"
abbrev pub destined_to : Position → Bool → ℕ
destined_to own functional = pick functional global (address_of own)

-- 5 "not diagnostic (DP, PF)"
pub data NotDiagnostic (n : ℕ) : Type 0 where
  other_page : (fields_of n).data_page ≢ 0 → NotDiagnostic n
  other_format : (fields_of n).format ≢ 205 → (fields_of n).format ≢ 206 → NotDiagnostic n

-- 6 "SA no vehicle, or own"
pub data NoOtherVehicle (own : Position) (n : ℕ) : Type 0 where
  no_vehicle : ((p : Position) → (fields_of n).source ≢ address_of p) → NoOtherVehicle own n
  own_address : (fields_of n).source ≡ address_of own → NoOtherVehicle own n

-- 8 "no unit byte, or another unit"
pub data OtherUnit (unit : ℕ) (bytes : List ℕ) : Type 0 where
  no_unit : length bytes < 1 → OtherUnit unit bytes
  another : 1 ≤ length bytes → slice_index bytes 0 ≢ unit → OtherUnit unit bytes

-- 9 "no second byte, high half 4..15, lengths not as above, functional and not single"
pub data Malformed (functional : Bool) (bytes : List ℕ) : Type 0 where
  no_second : length bytes < 2 → Malformed functional bytes
  single_of_none : 2 ≤ length bytes → slice_index bytes 1 / 16 ≡ 0 → slice_index bytes 1 % 16 ≡ 0 → Malformed functional bytes
  single_over_six : 2 ≤ length bytes → slice_index bytes 1 / 16 ≡ 0 → 6 < slice_index bytes 1 % 16 → Malformed functional bytes
  single_short : 2 ≤ length bytes → slice_index bytes 1 / 16 ≡ 0 → length bytes < 2 + slice_index bytes 1 % 16 → Malformed functional bytes
  functional_not_single : 2 ≤ length bytes → functional ≡ true → slice_index bytes 1 / 16 ≢ 0 → Malformed functional bytes
  first_short : 2 ≤ length bytes → functional ≡ false → slice_index bytes 1 / 16 ≡ 1 → length bytes < 8 → Malformed functional bytes
  first_under_seven : functional ≡ false → slice_index bytes 1 / 16 ≡ 1 → 8 ≤ length bytes → slice_index bytes 1 % 16 * 256 + slice_index bytes 2 < 7 → Malformed functional bytes
  no_kind : 2 ≤ length bytes → functional ≡ false → 4 ≤ slice_index bytes 1 / 16 → Malformed functional bytes

-- refusals 2 to 8, "Lowest first": for a node at this own position, with this unit
pub data Misaddressed (own : Position) (unit n : ℕ) (bytes : List ℕ) : Refusal → Type 0 where
  -- 2 "identifier 2^29 or more"
  names_2 : 2 ^ 29 ≤ n → Misaddressed own unit n bytes (refusal 2)
  -- 3 "more than 8 data bytes"
  names_3 : n < 2 ^ 29 → 8 < length bytes → Misaddressed own unit n bytes (refusal 3)
  -- 4 "R set"
  names_4 : n < 2 ^ 29 → length bytes ≤ 8 → reserved_bit n ≡ 1 → Misaddressed own unit n bytes (refusal 4)
  names_5 : Readable n bytes → NotDiagnostic n → Misaddressed own unit n bytes (refusal 5)
  names_6 : {functional : Bool} → Diagnostic n bytes functional → NoOtherVehicle own n → Misaddressed own unit n bytes (refusal 6)
  -- 7 "PS not as above"
  names_7 : {p : Position} {functional : Bool} → FromOther own n bytes p functional → (fields_of n).specific ≢ destined_to own functional → Misaddressed own unit n bytes (refusal 7)
  names_8 : {p : Position} {functional : Bool} → FromOther own n bytes p functional → (fields_of n).specific ≡ destined_to own functional → OtherUnit unit bytes
      → Misaddressed own unit n bytes (refusal 8)

-- refusals 2 to 10
pub data Names (own : Position) (unit n : ℕ) (bytes : List ℕ) : Refusal → Type 0 where
  misaddressed : {why : Refusal} → Misaddressed own unit n bytes why → Names own unit n bytes why
  names_9 : {p : Position} {functional : Bool} → Addressed own unit n bytes p functional → Malformed functional bytes → Names own unit n bytes (refusal 9)
  -- 10 "physical flow control"
  names_10 : {p : Position} → Addressed own unit n bytes p false → 2 ≤ length bytes → slice_index bytes 1 / 16 ≡ 3 → Names own unit n bytes (refusal 10)

-- the refusals of a physical consecutive frame, by its vehicle's reception: "12 goes before a physical consecutive frame's 9", then 13 and 14
pub data NamesNext (r : Reception) (number count stamp : ℕ) : Refusal → Type 0 where
  names_12 : r.length ≡ 0 → NamesNext r number count stamp (refusal 12)
  names_short : r.length ≢ 0 → count < 2 + min 6 (r.length - (5 + 6 * r.taken)) → NamesNext r number count stamp (refusal 9)
  names_13 : r.length ≢ 0 → 2 + min 6 (r.length - (5 + 6 * r.taken)) ≤ count → number ≢ (r.taken + 1) % 16 → NamesNext r number count stamp (refusal 13)
  names_14 : r.length ≢ 0 → 2 + min 6 (r.length - (5 + 6 * r.taken)) ≤ count → number ≡ (r.taken + 1) % 16 → 150 < gap_of stamp r.last → NamesNext r number count stamp (refusal 14)

-- a refusal of a frame offered to a node at this own position that keeps its rules: the frame's by itself, or a consecutive frame's by its vehicle's reception
pub data Refuses (own : Position) (n : Node) (identifier : ℕ) (bytes : List ℕ) (stamp : ℕ) (why : Refusal) : Type 0 where
  by_itself : Names own n.unit identifier bytes why → Refuses own n identifier bytes stamp why
  by_reception : {p : Position} {number : ℕ} → Addressed own n.unit identifier bytes p false → IsConsecutive bytes number → NamesNext (reception_at n (place_of p)) number (length bytes) stamp why
      → Refuses own n identifier bytes stamp why

-- a reception that breaks its rules: "closed", all its numbers 0, "or open with L 7..255, the frames k taken (5 + 6k below L)"
pub data BrokenReception (r : Reception) : Type 0 where
  closed_with_frames : r.length ≡ 0 → r.taken ≢ 0 → BrokenReception r
  closed_with_stamp : r.length ≡ 0 → r.last ≢ 0 → BrokenReception r
  under_seven : r.length ≢ 0 → r.length < 7 → BrokenReception r
  none_left : r.length ≢ 0 → r.length ≤ 5 + 6 * r.taken → BrokenReception r

-- 1 "lent state breaks its rules, own position not 1..5, .. or reception buffer not 1,536"
pub data Broken (n : Node) (buffer : List ℕ) : Type 0 where
  not_a_trailer : n.own < 1 → Broken n buffer
  past_the_last : 5 < n.own → Broken n buffer
  broken_reception : {p : ℕ} → p < 6 → BrokenReception (reception_at n p) → Broken n buffer
  other_room : length buffer ≢ buffer_length → Broken n buffer

-- a number over 255 where a byte is meant
pub data NoByte (n : Node) : Type 0 where
  unit_over : 255 < n.unit → NoByte n
  length_over : {p : ℕ} → p < 6 → 255 < (reception_at n p).length → NoByte n
  taken_over : {p : ℕ} → p < 6 → 255 < (reception_at n p).taken → NoByte n

-- 1 of a lent node: it is broken so, or as every node
pub data BrokenLent (n : Node) (buffer : List ℕ) : Type 0 where
  no_byte : NoByte n → BrokenLent n buffer
  as_every_node : Broken n buffer → BrokenLent n buffer
