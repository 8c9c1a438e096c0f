-- Digits read: the number that exactly so many digits say.
use Rattle.std.specs.Prelude.{Bool, true, List, [], ◌∷◌, ℕ, ◌^◌, eqb, ltb, length, Option, Some, None}
use Rattle.identifiers.specs.Choice.{pick, both}
use Rattle.text.specs.Digits.{is_digit, value_from}

-- every byte is a digit of the base
unfoldable pub all_digits : ℕ → List ℕ → Bool
all_digits base [] = true
all_digits base (b ∷ bytes) = both (is_digit base b) (all_digits base bytes)

-- so many digits, each of the base, that say a number below 2^32
unfoldable pub is_number : ℕ → ℕ → List ℕ → Bool
is_number base places text = both (eqb (length text) places) (both (all_digits base text) (ltb (value_from base 0 text) (2 ^ 32)))

unfoldable pub digits_read : ℕ → ℕ → List ℕ → Option ℕ
digits_read base places text = pick (is_number base places text) (Some (value_from base 0 text)) None
