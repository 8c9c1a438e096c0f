-- What a raw number of a kind says, and what two bits say (document 01, "Readings").
use Rattle.std.specs.Prelude.{false, [], ◌∷◌, ℕ, ◌*◌, ◌≤◌, ◌<◌, leb, ltb, eqb, pos, Float, get_or, Result, Ok, Err}
use Rattle.std.specs.Float.{fin}
use Rattle.identifiers.specs.Choice.{pick}
use Rattle.identifiers.specs.Refusals.{refusal, number_of}
use Rattle.readings.specs.declared.kind.Kind.{Kind}
use Rattle.readings.specs.declared.reading.ParameterReadTold.{ParameterReadTold}
use Rattle.readings.specs.declared.reading.TwoBits.{TwoBits}
use Rattle.readings.specs.declared.reading.TwoBits.TheVariants as bits
use Rattle.readings.specs.declared.reading.TwoBitsReadTold.{TwoBitsReadTold}
use Rattle.readings.specs.Fractions.{fraction}
use Rattle.readings.specs.Kinds.{kind_of, high_byte, span, whole_of}
use Rattle.readings.specs.declared.reading.Measured.{Measured}
use Rattle.identifiers.specs.declared.refusal.Refusal.{Refusal}
use Rattle.readings.specs.declared.reading.Reading.{Reading}
use Rattle.readings.specs.declared.reading.Reading.TheVariants.{Value, Reserved, Error, NotAvailable, BeyondRange, Indicator}

-- "Both are 0 for the other outcomes"
unfoldable pub without_value : Reading → Result Measured Refusal
without_value r = Ok (record { reading = r; whole = pos 0 })

-- "The value is an f32 and exact", and "the same signed whole number is given beside it"
unfoldable pub valued : Kind → ℕ → Result Measured Refusal
valued k raw = Ok (record { reading = Value (fraction (whole_of k raw) k.divisor); whole = whole_of k raw })

unfoldable pub in_range : Kind → ℕ → Result Measured Refusal
in_range k raw = pick (ltb k.last raw) (without_value BeyondRange) (valued k raw)

-- "0..250 value, .. 254 error, 255 not available"; 20 "raw past its one byte, two bytes";
-- document 02, 2026-03: "indicator, for one byte 251 ..; reserved shrinks to 252 and 253"
unfoldable pub measured_by : Kind → ℕ → ℕ → Result Measured Refusal
measured_by k raw high =
    pick (leb high 250) (in_range k raw)
    (pick (eqb high 251) (without_value Indicator)
    (pick (leb high 253) (without_value Reserved) (pick (eqb high 254) (without_value Error) (pick (eqb high 255) (without_value NotAvailable) (Err (refusal 20))))))

unfoldable pub measured_as : Kind → ℕ → Result Measured Refusal
measured_as k raw = measured_by k raw (high_byte k.bytes raw)

-- 20 "kind over 7"
unfoldable pub parameter_of : ℕ → ℕ → Result Measured Refusal
parameter_of kind raw = pick (ltb 7 kind) (Err (refusal 20)) (measured_as (kind_of kind) raw)

-- ---- the same by the raw number, for a reader: which numbers of a kind say what
pub data Says (k : Kind) (raw : ℕ) : Result Measured Refusal → Type 0 where
  -- "0..250 value", "(0..64255 value)", of percent load "raw 126..250 beyond range"
  says_value : raw < 251 * span k.bytes → raw ≤ k.last → Says k raw (valued k raw)
  says_beyond_range : raw < 251 * span k.bytes → k.last < raw → Says k raw (without_value BeyondRange)
  -- 2026-03: "indicator, for one byte 251 and two bytes `FB00` to `FBFF`; reserved shrinks to 252 and 253 and high bytes `FC` and `FD`"
  says_indicator : 251 * span k.bytes ≤ raw → raw < 252 * span k.bytes → Says k raw (without_value Indicator)
  says_reserved : 252 * span k.bytes ≤ raw → raw < 254 * span k.bytes → Says k raw (without_value Reserved)
  -- "254 error, 255 not available"
  says_error : 254 * span k.bytes ≤ raw → raw < 255 * span k.bytes → Says k raw (without_value Error)
  says_not_available : 255 * span k.bytes ≤ raw → raw < 256 * span k.bytes → Says k raw (without_value NotAvailable)
  -- 20 "raw past its one byte, two bytes"
  says_20 : 256 * span k.bytes ≤ raw → Says k raw (Err (refusal 20))

-- "Two bits, read apart from the kinds: 0 no, 1 yes, 2 error, 3 not available, over 3 refusal 20"
unfoldable pub two_bits_of : ℕ → Result TwoBits Refusal
two_bits_of raw = get_or (Ok bits.No ∷ Ok bits.Yes ∷ Ok bits.Error ∷ Ok bits.NotAvailable ∷ []) raw (Err (refusal 20))

-- the answers in document 01's numbers and words: "a physical value, reserved, error, not available, or beyond range" are 0 to 4,
-- and 2026-03's "sixth outcome, indicator" is 5
abbrev pub outcome_of : Reading → ℕ
outcome_of (Value x) = 0
outcome_of Reserved = 1
outcome_of Error = 2
outcome_of NotAvailable = 3
outcome_of BeyondRange = 4
outcome_of Indicator = 5

abbrev pub zero : Float
zero = fin false 0 (pos 0)

abbrev pub value_of : Reading → Float
value_of (Value x) = x
value_of Reserved = zero
value_of Error = zero
value_of NotAvailable = zero
value_of BeyondRange = zero
value_of Indicator = zero

unfoldable pub parameter_told : Result Measured Refusal → ParameterReadTold
parameter_told (Ok m) = record { refusal = 0; outcome = outcome_of m.reading; value = value_of m.reading; whole = m.whole }
parameter_told (Err why) = record { refusal = number_of why; outcome = 0; value = zero; whole = pos 0 }

abbrev pub two_bits_number : TwoBits → ℕ
two_bits_number bits.No = 0
two_bits_number bits.Yes = 1
two_bits_number bits.Error = 2
two_bits_number bits.NotAvailable = 3

unfoldable pub two_bits_told : Result TwoBits Refusal → TwoBitsReadTold
two_bits_told (Ok b) = record { refusal = 0; outcome = two_bits_number b }
two_bits_told (Err why) = record { refusal = number_of why; outcome = 0 }
