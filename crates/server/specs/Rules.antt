-- The rules of a trailer record in plain numbers, place by place (document 01, "Server").
use Rattle.std.specs.Prelude.{◌≡◌, ◌≢◌, ◌⊎◌, ℕ, ◌+◌, ◌≤◌, ◌<◌, get_or}
use Rattle.std.specs.Int.Bits.{bit_and}
use Rattle.server.specs.declared.trailer.TrailerRecord.{TrailerRecord}

-- "It holds up to 63 fault codes, 24 bits, strictly ascending, none `FFFFFF`, with a status byte each; an availability mask; up to 16 data identifiers, strictly ascending, of 1..32 bytes."
pub record KeepsRules (t : TrailerRecord) : Type 0 where
  pub count : t.count ≤ 63
  pub codes : (i : ℕ) → i < t.count → get_or t.codes i 0 < 0xFFFFFF
  pub codes_ascend : (i : ℕ) → i + 1 < t.count → get_or t.codes i 0 < get_or t.codes (i + 1) 0
  -- "A status has no bit outside the mask."
  pub statuses : (i : ℕ) → i < t.count → bit_and (get_or t.statuses i 0) t.availability ≡ get_or t.statuses i 0
  -- "Mask rule: bits 0, 3 and 6 set; bit 2 only with bit 1; bits 4 and 5 together."
  pub mask_set : bit_and t.availability 0x49 ≡ 0x49
  pub mask_2 : bit_and t.availability 0x06 ≢ 0x04
  pub mask_45 : (bit_and t.availability 0x30 ≡ 0x00) ⊎ (bit_and t.availability 0x30 ≡ 0x30)
  pub held : t.held ≤ 16
  pub identifiers_ascend : (k : ℕ) → k + 1 < t.held → get_or t.identifiers k 0 < get_or t.identifiers (k + 1) 0
  pub lengths : (k : ℕ) → k < t.held → (1 ≤ get_or t.lengths k 0) × (get_or t.lengths k 0 ≤ 32)
