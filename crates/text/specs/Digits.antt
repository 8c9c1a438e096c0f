-- Digits as bytes of ASCII: a number in decimal, a byte in hexadecimal, and what digits say.
use Rattle.std.specs.Prelude.{Bool, List, [], ◌∷◌, ◌++◌, ℕ, zero, suc, ◌+◌, ◌-◌, ◌*◌, ◌/◌, ◌%◌, eqb, ltb, leb}
use Rattle.identifiers.specs.Choice.{pick, both}

-- ---- written
-- a number in decimal, at most so many places, with no zeros in front
unfoldable pub decimal_in : ℕ → ℕ → List ℕ
decimal_in zero n = []
decimal_in (suc places) n = pick (ltb n 10) ((48 + n) ∷ []) (decimal_in places (n / 10) ++ ((48 + n % 10) ∷ []))

-- a number in decimal, with no zeros in front: n + 1 places are enough for n
unfoldable pub decimal : ℕ → List ℕ
decimal n = decimal_in (suc n) n

-- a digit below 16: 0 to 9, then A to F
unfoldable pub hex_digit : ℕ → ℕ
hex_digit d = pick (ltb d 10) (48 + d) (55 + d)

-- a byte in two capital hexadecimal digits
unfoldable pub hex : ℕ → List ℕ
hex n = hex_digit (n / 16) ∷ hex_digit (n % 16) ∷ []

abbrev pub blank : List ℕ
blank = 32 ∷ []

abbrev pub newline : List ℕ
newline = 10 ∷ []

-- ---- read
-- a byte from low to high
unfoldable pub between : ℕ → ℕ → ℕ → Bool
between low high b = both (leb low b) (leb b high)

-- the value of a digit: 0 to 9, A to F, a to f; 16 for every other byte
unfoldable pub digit_value : ℕ → ℕ
digit_value b = pick (between 48 57 b) (b - 48) (pick (between 65 70 b) (b - 55) (pick (between 97 102 b) (b - 87) 16))

-- a digit of a base up to 16
unfoldable pub is_digit : ℕ → ℕ → Bool
is_digit base b = ltb (digit_value b) base

-- the number that digits of a base say, from the left on, behind a number that is said already
unfoldable pub value_from : ℕ → ℕ → List ℕ → ℕ
value_from base n [] = n
value_from base n (b ∷ bytes) = value_from base (n * base + digit_value b) bytes

-- how many newlines a text has
abbrev pub newlines : List ℕ → ℕ
newlines [] = 0
newlines (b ∷ bytes) = pick (eqb b 10) 1 0 + newlines bytes
