-- What each frame of a cut message and of flow control is on the wire, and that it is addressed as document 01 says.
use Rattle.std.specs.Prelude.{Ok}
use Rattle.std.proofs.Common.{◌≡◌, ℕ, suc, ◌+◌, ◌-◌, ◌*◌, ◌%◌, ◌<◌, ◌≤◌, false, ◌≢◌, List, [], ◌∷◌, ◌++◌, length, take, drop, replicate, sym, refl, ap, ◌∙◌, arith, lit<, lit≤, length-take, length-take-le, ne_eqb, le-leb, Result, Ok, Err, length-append}
use borrow.Author.Tests.{lt-leb}
use Rattle.identifiers.specs.Choice.{pick}
use Rattle.identifiers.specs.Bytes.{written}
use Rattle.identifiers.specs.Identifiers.{formula, reserved_bit, fields_of, written_as}
use Rattle.identifiers.specs.declared.identifier.Identifier.{Identifier}
use Rattle.identifiers.proofs.LawsChoice.{pick_true, pick-false, right-decides}
use Rattle.identifiers.proofs.LawsBytes.{take-written, written-append}
use Rattle.identifiers.proofs.LawsInverse.{Widths, formula-range, formula-reserved, formula-fields, write-number}
use Rattle.identifiers.specs.declared.refusal.Refusal.{Refusal}
use Rattle.readings.specs.Positions.{place_of, address_of}
use Rattle.readings.specs.declared.position.Position.{Position}
use Rattle.readings.proofs.LawsPositions.{place-back, address-byte}
use Rattle.receiver.specs.declared.cutter.FrameCut.{FrameCut}
use Rattle.receiver.specs.declared.outcome.Control.{Control}
use Rattle.receiver.specs.declared.outcome.Control.TheVariants.{Continue, Overflow}
use Rattle.receiver.specs.Frames.{Frame}
use Rattle.receiver.specs.Wire.{Addressed}
use Rattle.receiver.specs.Cuts.{frame_count, physical_to, framed_as, framed, headed, piece_of, cut_of, control_byte, flow_control_of, on_wire}
use Rattle.receiver.proofs.LawsPieces.{frames-one, frames-many, between-both}

-- ---- a frame from one position to another
module _ (sender receiver : Position) where
  -- its identifier
  abbrev pub identifier_to : ℕ
  identifier_to = formula (physical_to sender receiver)

  is-number : written_as (physical_to sender receiver) ≡ Ok identifier_to
  unfolding physical_to
  is-number = write-number (physical_to sender receiver) (lit≤ tt) (lit≤ tt) (lit≤ tt)

  -- what the writer gives for it, whatever its addresses are called
  pub wrote : {to from : ℕ} {w : Result ℕ Refusal} → to ≡ address_of receiver → from ≡ address_of sender
      → w ≡ written_as (record { priority = 6; reserved = 0; data_page = 0; format = 206; specific = to; source = from }) → w ≡ Ok identifier_to
  unfolding physical_to
  wrote p q h = h ∙ rw (p, q) is-number

  framed_is : (count : ℕ) (bytes : List ℕ) → framed sender receiver count bytes ≡ Ok (record { identifier = identifier_to; length = count; «data» = bytes })
  unfolding framed framed_as
  framed_is count bytes = ap (framed_as count bytes) is-number

  -- its data, and no padding
  pub headed-wire : (head bytes : List ℕ) (stamp : ℕ) → length (head ++ bytes) ≤ 8
      → on_wire (headed sender receiver head bytes) stamp ≡ record { identifier = identifier_to; bytes = head ++ bytes; stamp = stamp }
  unfolding headed
  headed-wire head bytes stamp h =
      let all : List ℕ = head ++ bytes in
      let l : 0 + length all ≡ length all = omega arith in
      ap (λ (c : Result FrameCut Refusal). on_wire c stamp) (framed_is (length (head ++ bytes)) (written (replicate 8 0) 0 (head ++ bytes)))
      ∙ ap (λ (l : List ℕ). record { identifier = identifier_to; bytes = l; stamp = stamp }) (rw l at (take-written (replicate 8 0) 0 all (omega arith)))

  -- its number, and the head stored and then the bytes
  pub headed-so : (head bytes : List ℕ) {n : ℕ} {first after : List ℕ} → ◌≡◌ {A = Result ℕ Refusal} (Ok n) (Ok identifier_to) → first ≡ written (replicate 8 0) 0 head → after ≡ written first (length head) bytes
      → Ok (record { identifier = n; length = length head + length bytes; «data» = after }) ≡ headed sender receiver head bytes
  unfolding headed
  headed-so head bytes {n} {first} {after} i e f =
      let same : n ≡ identifier_to = cc in
      let l : 0 + length head ≡ length head = omega arith in
      let whole : after ≡ written (replicate 8 0) 0 (head ++ bytes) = f ∙ ap (λ (l : List ℕ). written l (length head) bytes) e ∙ sym (rw l at (written-append (replicate 8 0) 0 head bytes)) in
      rw (same, whole, ← length-append head bytes) (sym (framed_is (length (head ++ bytes)) (written (replicate 8 0) 0 (head ++ bytes))))

  -- it is no refusal
  pub headed-done : (head bytes : List ℕ) (why : Refusal) → headed sender receiver head bytes ≡ Err why → ⊥
  unfolding headed
  headed-done head bytes why e = let f = framed_is (length (head ++ bytes)) (written (replicate 8 0) 0 (head ++ bytes)) in cc

-- ---- a frame of a message from one position to another
module _ (sender receiver : Position) (unit : ℕ) (m : List ℕ) (other : place_of sender ≢ place_of receiver) where
  -- frame k of the message, sent at a stamp
  abbrev cut_wire : ℕ → ℕ → Frame
  cut_wire k stamp = on_wire (cut_of m k (place_of sender) (place_of receiver) unit) stamp

  -- a frame of the unit and these bytes
  abbrev wire : List ℕ → ℕ → Frame
  wire rest stamp = record { identifier = identifier_to sender receiver; bytes = unit ∷ rest; stamp = stamp }

  cut-is : (k : ℕ) → k < frame_count (length m) → cut_of m k (place_of sender) (place_of receiver) unit ≡ piece_of sender receiver unit m k
  unfolding cut_of
  cut-is k h = pick-false _ _ (sym (right-decides (ne_eqb _ _ other) (sym (lt-leb _ _ h)))) ∙ between-both _ _ _ sender receiver (place-back sender) (place-back receiver)

  piece-wire : (k stamp : ℕ) (head bytes : List ℕ) → k < frame_count (length m) → piece_of sender receiver unit m k ≡ headed sender receiver (unit ∷ head) bytes → length (unit ∷ head ++ bytes) ≤ 8
      → cut_wire k stamp ≡ wire (head ++ bytes) stamp
  piece-wire k stamp head bytes h e l = ap (λ (c : Result FrameCut Refusal). on_wire c stamp) (cut-is k h ∙ e) ∙ headed-wire sender receiver (unit ∷ head) bytes stamp l

  -- "one single frame up to 6 bytes"
  pub single-wire : (stamp : ℕ) → 1 ≤ length m → length m ≤ 6 → cut_wire 0 stamp ≡ wire (length m ∷ m) stamp
  unfolding piece_of
  single-wire stamp a b = let n = frames-one (length m) a b in piece-wire 0 stamp (length m ∷ []) m (omega arith) (pick_true _ _ (le-leb _ _ b)) (omega arith)

  module _ (long : 7 ≤ length m) (most : length m ≤ 255) where
    -- "else a first frame"
    pub first-wire : (stamp : ℕ) → cut_wire 0 stamp ≡ wire (0x10 ∷ length m ∷ take 5 m) stamp
    unfolding piece_of
    first-wire stamp =
        let n = frames-many (length m) long most in
        let l : length (take 5 m) ≡ 5 = length-take-le 5 m (omega arith) in
        piece-wire 0 stamp (0x10 ∷ length m ∷ []) (take 5 m) (omega arith) (pick-false _ _ (lt-leb _ _ long) ∙ pick_true _ _ refl) (omega arith)

    -- "and consecutive frames 1 to ceiling((L-5)/6)"
    pub consecutive-wire : (k stamp : ℕ) → suc k < frame_count (length m) → cut_wire (suc k) stamp ≡ wire ((0x20 + suc k % 16) ∷ take 6 (drop (5 + 6 * k) m)) stamp
    unfolding piece_of
    consecutive-wire k stamp h =
        let l : length (take 6 (drop (5 + 6 * k) m)) ≤ 6 = simp length-take (omega arith) in
        let e : suc k - 1 ≡ k = omega arith in
        let z : suc k ≢ 0 = λ (d : suc k ≡ 0). omega arith in
        piece-wire (suc k) stamp ((0x20 + suc k % 16) ∷ []) (take 6 (drop (5 + 6 * k) m)) h
        (pick-false _ _ (lt-leb _ _ long)
        ∙ pick-false _ _ (ne_eqb _ _ z)
        ∙ ap (λ (i : ℕ). headed sender receiver (unit ∷ (0x20 + suc k % 16) ∷ []) (take 6 (drop (5 + 6 * i) m))) e) (omega arith)

-- ---- flow control: "continue control (`30 00 00`)", "overflow control (`32 00 00` after the unit)"
module _ (sender receiver : Position) (unit stamp : ℕ) (other : place_of sender ≢ place_of receiver) where
  control-is : (control : Control) → on_wire (flow_control_of control (place_of sender) (place_of receiver) unit) stamp ≡ record { identifier = identifier_to sender receiver; bytes = unit ∷ control_byte control ∷ 0 ∷ 0 ∷ []; stamp = stamp }
  unfolding flow_control_of
  control-is control =
      ap (λ (c : Result FrameCut Refusal). on_wire c stamp) (pick-false _ _ (ne_eqb _ _ other) ∙ between-both _ _ _ sender receiver (place-back sender) (place-back receiver))
      ∙ headed-wire sender receiver (unit ∷ []) (control_byte control ∷ 0 ∷ 0 ∷ []) stamp (omega arith)

  pub continue-wire : on_wire (flow_control_of Continue (place_of sender) (place_of receiver) unit) stamp ≡ record { identifier = identifier_to sender receiver; bytes = unit ∷ 0x30 ∷ 0 ∷ 0 ∷ []; stamp = stamp }
  unfolding control_byte
  continue-wire = control-is Continue

  pub overflow-wire : on_wire (flow_control_of Overflow (place_of sender) (place_of receiver) unit) stamp ≡ record { identifier = identifier_to sender receiver; bytes = unit ∷ 0x32 ∷ 0 ∷ 0 ∷ []; stamp = stamp }
  unfolding control_byte
  overflow-wire = control-is Overflow

-- ---- what the receiver makes of a physical frame from p to itself
module _ (own p : Position) where
  widths : Widths (physical_to p own)
  unfolding physical_to
  widths = record { priority = lit< tt; reserved = lit< tt; data_page = lit< tt; format = lit< tt; specific = address-byte own; source = address-byte p }

  fields_back : fields_of (identifier_to p own) ≡ physical_to p own
  fields_back = formula-fields (physical_to p own) widths

  pub cut-addressed : (unit : ℕ) (rest : List ℕ) → place_of p ≢ place_of own → length (unit ∷ rest) ≤ 8 → Addressed own unit (identifier_to p own) (unit ∷ rest) p false
  unfolding physical_to pick
  cut-addressed unit rest other l =
      let bit = formula-reserved (physical_to p own) widths in
      record {
        range = formula-range (physical_to p own) widths;
        count = l;
        reserved = λ (e : reserved_bit (identifier_to p own) ≡ 1). omega arith;
        page = ap (λ (i : Identifier). i.data_page) fields_back;
        format = ap (λ (i : Identifier). i.format) fields_back;
        source = ap (λ (i : Identifier). i.source) fields_back;
        other = other;
        specific = ap (λ (i : Identifier). i.specific) fields_back;
        own_unit = (omega arith, refl);
      }
