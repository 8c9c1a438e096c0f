-- The mask rule (document 01, "Server"; 000, table 11).
use Rattle.std.specs.Prelude.{Bool, not, ℕ, eqb}
use Rattle.std.specs.Int.Bits.{bit_and}
use Rattle.identifiers.specs.Choice.{both, either}

-- "bits 0, 3 and 6 set; bit 2 only with bit 1; bits 4 and 5 together"
unfoldable pub sound_mask : ℕ → Bool
sound_mask mask =
    both (both (eqb (bit_and mask 0x49) 0x49) (not (eqb (bit_and mask 0x06) 0x04)))
    (either (eqb (bit_and mask 0x30) 0x00) (eqb (bit_and mask 0x30) 0x30))
