-- Parts of a text, found from the left: bytes of a kind in a row, digits between two places, pairs of digits.
use Rattle.std.specs.Prelude.{Bool, List, [], ◌∷◌, ℕ, zero, suc, ◌+◌, ◌*◌, ◌%◌, ◌^◌, leb, length, get_or, take, drop, Option, Some, None, ◌≡◌}
use Rattle.identifiers.specs.Choice.{pick, both}
use Rattle.text.specs.Digits.{digit_value, is_digit, value_from}
use Rattle.text.specs.Reading.{all_digits}

-- how many bytes at the front have p
unfoldable pub run_length : (ℕ → Bool) → List ℕ → ℕ
run_length p [] = 0
run_length p (b ∷ bs) = pick (p b) (suc (run_length p bs)) 0

-- the place behind the bytes that have p, from a place on
unfoldable pub end_of : (ℕ → Bool) → List ℕ → ℕ → ℕ
end_of p l from = from + run_length p (drop from l)

-- the bytes from a place up to another
unfoldable pub part : List ℕ → ℕ → ℕ → List ℕ
part l from to = drop from (take to l)

-- from a place up to another stand digits of a base
unfoldable pub digits_in : ℕ → List ℕ → ℕ → ℕ → Bool
digits_in base l from to = both (leb to (length l)) (all_digits base (part l from to))

-- the values of so many digits from a place on: 16 where no digit stands
unfoldable pub values_from : ℕ → List ℕ → ℕ → List ℕ
values_from zero l at = []
values_from (suc n) l at = digit_value (get_or l at 0) ∷ values_from n l (at + 1)

-- the bytes that pairs of hexadecimal digits say, at most so many, from a place on
unfoldable pub pairs_from : ℕ → List ℕ → ℕ → List ℕ
pairs_from zero l at = []
pairs_from (suc n) l at =
    pick (both (is_digit 16 (get_or l at 0)) (is_digit 16 (get_or l (at + 1) 0))) ((digit_value (get_or l at 0) * 16 + digit_value (get_or l (at + 1) 0)) ∷ pairs_from n l (at + 2)) []

-- ---- what the code answers of parts
-- decimal digits from a place on: where they end, and what they say modulo 2^32
pub record Ran (l : List ℕ) (from end value : ℕ) : Type 0 where
  pub ends : end ≡ end_of (is_digit 10) l from
  pub says : value ≡ value_from 10 0 (part l from end) % 2 ^ 32

-- what the digits between two places say modulo 2^32, where digits stand there
unfoldable pub digits_said : ℕ → List ℕ → ℕ → ℕ → Option ℕ
digits_said base l from to = pick (digits_in base l from to) (Some (value_from base 0 (part l from to) % 2 ^ 32)) None

-- the number beside it, where they are no digits too: 0 where the text is too short
unfoldable pub value_said : ℕ → List ℕ → ℕ → ℕ → ℕ
value_said base l from to = pick (leb to (length l)) (value_from base 0 (part l from to) % 2 ^ 32) 0
