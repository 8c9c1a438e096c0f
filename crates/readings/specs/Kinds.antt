-- The table of kinds (document 01, "Readings"; 003).
use Rattle.std.specs.Prelude.{List, [], ◌∷◌, ℕ, ◌*◌, ◌/◌, ◌^◌, ◌<◌, eqb, ltb, ℤ, pos, neg_ℤ, ◌+ℤ◌, ◌*ℤ◌, get_or, Result, Ok, Err}
use Rattle.identifiers.specs.Choice.{pick}
use Rattle.identifiers.specs.Refusals.{refusal}
use Rattle.identifiers.specs.declared.refusal.Refusal.{Refusal}
use Rattle.readings.specs.declared.kind.Kind.{Kind}
use Rattle.readings.specs.Fractions.{PowerOfTwo}

-- "kind, bytes, step, offset": the step is 1 over the divisor, the offset is minus `below`, and `last` is the last raw number in range:
-- 0 gear, 1 percent torque, 2 percent load ("raw 126..250 beyond range"), 3 speed limit,
-- 4 vehicle speed, 5 engine speed, 6 reference torque, 7 ambient temperature
abbrev pub kinds : List Kind
kinds =
    (record { bytes = 1; divisor = 1; below = 125; last = 250 })
    ∷ (record { bytes = 1; divisor = 1; below = 125; last = 250 })
    ∷ (record { bytes = 1; divisor = 1; below = 0; last = 125 })
    ∷ (record { bytes = 1; divisor = 1; below = 0; last = 250 })
    ∷ (record { bytes = 2; divisor = 256; below = 0; last = 64255 })
    ∷ (record { bytes = 2; divisor = 8; below = 0; last = 64255 })
    ∷ (record { bytes = 2; divisor = 1; below = 0; last = 64255 })
    ∷ (record { bytes = 2; divisor = 32; below = 273; last = 64255 })
    ∷ []

-- of the kinds 0 to 7; no other is asked for
unfoldable pub kind_of : ℕ → Kind
kind_of k = get_or kinds k (record { bytes = 2; divisor = 32; below = 273; last = 64255 })

-- 20 "kind over 7"
unfoldable pub kind_numbered : ℕ → Result Kind Refusal
kind_numbered k = pick (ltb 7 k) (Err (refusal 20)) (Ok (kind_of k))

-- "Two bytes: by the high byte alike"
unfoldable pub high_byte : ℕ → ℕ → ℕ
high_byte bytes raw = pick (eqb bytes 1) raw (raw / 256)

-- how many raw numbers have one high byte: of one byte 1, of two 256
unfoldable pub span : ℕ → ℕ
span bytes = pick (eqb bytes 1) 1 256

-- "the raw number plus offset times divisor"
unfoldable pub whole_of : Kind → ℕ → ℤ
whole_of k raw = pos raw +ℤ neg_ℤ (pos k.below) *ℤ pos k.divisor

-- what each row keeps
pub record Sound (k : Kind) : Type 0 where
  pub power : PowerOfTwo k.divisor
  pub base : k.below * k.divisor < 2 ^ 15
  pub last : k.last < 2 ^ 16
