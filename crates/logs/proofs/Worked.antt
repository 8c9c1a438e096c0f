-- Lines worked by hand, both sides of each limit, computed by the definitions that the contracts cite.
use mathlib.Core.Path.{◌≡◌, refl, sym}
use mathlib.Core.List.{List, [], ◌∷◌}
use Prim.Native.Nat.{ℕ}
use native.Mathlib.Omega.{arith}
use Rattle.std.specs.Prelude.{Some, None, Ok, Err}
use Rattle.identifiers.specs.Choice.{pick, both}
use Rattle.identifiers.specs.Refusals.{refusal}
use Rattle.text.specs.Digits.{decimal_in, decimal, hex_digit, hex, between, digit_value, is_digit, value_from}
use Rattle.text.specs.Reading.{all_digits}
use Rattle.text.proofs.LawsDigits.{decimal-in, decimal-one}
use Rattle.logs.specs.Grammar.{stamp_of, number_of_name}
use Rattle.logs.specs.Outcomes.{eight, frame_said}
use Rattle.logs.specs.Parts.{run_length, end_of, part, digits_in, pairs_from}
use Rattle.logs.specs.Lines.{dot_at, interface_at, gap_at, is_three, mark_at, line_bytes, end_at, timed, parted, named, begins, line_stamp, line_number, said, line_read}
use Rattle.logs.specs.Written.{hexes, millis, four_bytes, line_text}

-- (12.003000) can0 18CEC9EB#05023E00
abbrev pub request : List ℕ
request = 40 ∷ 49 ∷ 50 ∷ 46 ∷ 48 ∷ 48 ∷ 51 ∷ 48 ∷ 48 ∷ 48 ∷ 41 ∷ 32 ∷ 99 ∷ 97 ∷ 110 ∷ 48 ∷ 32 ∷ 49 ∷ 56 ∷ 67 ∷ 69 ∷ 67 ∷ 57 ∷ 69 ∷ 66 ∷ 35 ∷ 48 ∷ 53 ∷ 48 ∷ 50 ∷ 51 ∷ 69 ∷ 48 ∷ 48 ∷ []

-- (4294967.296000) can0 18CEC9EB#
abbrev pub around : List ℕ
around = 40 ∷ 52 ∷ 50 ∷ 57 ∷ 52 ∷ 57 ∷ 54 ∷ 55 ∷ 46 ∷ 50 ∷ 57 ∷ 54 ∷ 48 ∷ 48 ∷ 48 ∷ 41 ∷ 32 ∷ 99 ∷ 97 ∷ 110 ∷ 48 ∷ 32 ∷ 49 ∷ 56 ∷ 67 ∷ 69 ∷ 67 ∷ 57 ∷ 69 ∷ 66 ∷ 35 ∷ []

-- (4294967.295999) can0 18CEC9EB#
abbrev pub before-around : List ℕ
before-around = 40 ∷ 52 ∷ 50 ∷ 57 ∷ 52 ∷ 57 ∷ 54 ∷ 55 ∷ 46 ∷ 50 ∷ 57 ∷ 53 ∷ 57 ∷ 57 ∷ 57 ∷ 41 ∷ 32 ∷ 99 ∷ 97 ∷ 110 ∷ 48 ∷ 32 ∷ 49 ∷ 56 ∷ 67 ∷ 69 ∷ 67 ∷ 57 ∷ 69 ∷ 66 ∷ 35 ∷ []

-- (1436509052.249713)  vcan1 1fffffff#0a0B
abbrev pub long-ago : List ℕ
long-ago = 40 ∷ 49 ∷ 52 ∷ 51 ∷ 54 ∷ 53 ∷ 48 ∷ 57 ∷ 48 ∷ 53 ∷ 50 ∷ 46 ∷ 50 ∷ 52 ∷ 57 ∷ 55 ∷ 49 ∷ 51 ∷ 41 ∷ 32 ∷ 32 ∷ 118 ∷ 99 ∷ 97 ∷ 110 ∷ 49 ∷ 32 ∷ 49 ∷ 102 ∷ 102 ∷ 102 ∷ 102 ∷ 102 ∷ 102 ∷ 102 ∷ 35 ∷ 48 ∷ 97 ∷ 48 ∷ 66 ∷ []

-- (1.000000) can0 123#11
abbrev pub three_digits : List ℕ
three_digits = 40 ∷ 49 ∷ 46 ∷ 48 ∷ 48 ∷ 48 ∷ 48 ∷ 48 ∷ 48 ∷ 41 ∷ 32 ∷ 99 ∷ 97 ∷ 110 ∷ 48 ∷ 32 ∷ 49 ∷ 50 ∷ 51 ∷ 35 ∷ 49 ∷ 49 ∷ []

-- (1.000000) can0 20000000#
abbrev pub large : List ℕ
large = 40 ∷ 49 ∷ 46 ∷ 48 ∷ 48 ∷ 48 ∷ 48 ∷ 48 ∷ 48 ∷ 41 ∷ 32 ∷ 99 ∷ 97 ∷ 110 ∷ 48 ∷ 32 ∷ 50 ∷ 48 ∷ 48 ∷ 48 ∷ 48 ∷ 48 ∷ 48 ∷ 48 ∷ 35 ∷ []

-- (1.000000) can0 18CEC9EB#R
abbrev pub remote : List ℕ
remote = 40 ∷ 49 ∷ 46 ∷ 48 ∷ 48 ∷ 48 ∷ 48 ∷ 48 ∷ 48 ∷ 41 ∷ 32 ∷ 99 ∷ 97 ∷ 110 ∷ 48 ∷ 32 ∷ 49 ∷ 56 ∷ 67 ∷ 69 ∷ 67 ∷ 57 ∷ 69 ∷ 66 ∷ 35 ∷ 82 ∷ []

-- (1.000000) can0 18CEC9EB##0
abbrev pub flexible : List ℕ
flexible = 40 ∷ 49 ∷ 46 ∷ 48 ∷ 48 ∷ 48 ∷ 48 ∷ 48 ∷ 48 ∷ 41 ∷ 32 ∷ 99 ∷ 97 ∷ 110 ∷ 48 ∷ 32 ∷ 49 ∷ 56 ∷ 67 ∷ 69 ∷ 67 ∷ 57 ∷ 69 ∷ 66 ∷ 35 ∷ 35 ∷ 48 ∷ []

-- (1.000000) can0 18CEC9EB#000102030405060708
abbrev pub nine-bytes : List ℕ
nine-bytes = 40 ∷ 49 ∷ 46 ∷ 48 ∷ 48 ∷ 48 ∷ 48 ∷ 48 ∷ 48 ∷ 41 ∷ 32 ∷ 99 ∷ 97 ∷ 110 ∷ 48 ∷ 32 ∷ 49 ∷ 56 ∷ 67 ∷ 69 ∷ 67 ∷ 57 ∷ 69 ∷ 66 ∷ 35 ∷ 48 ∷ 48 ∷ 48 ∷ 49 ∷ 48 ∷ 50 ∷ 48 ∷ 51 ∷ 48 ∷ 52 ∷ 48 ∷ 53 ∷ 48 ∷ 54 ∷ 48 ∷ 55 ∷ 48 ∷ 56 ∷ []

-- (1.000000) can0 18CEC9EB#012
abbrev pub odd : List ℕ
odd = 40 ∷ 49 ∷ 46 ∷ 48 ∷ 48 ∷ 48 ∷ 48 ∷ 48 ∷ 48 ∷ 41 ∷ 32 ∷ 99 ∷ 97 ∷ 110 ∷ 48 ∷ 32 ∷ 49 ∷ 56 ∷ 67 ∷ 69 ∷ 67 ∷ 57 ∷ 69 ∷ 66 ∷ 35 ∷ 48 ∷ 49 ∷ 50 ∷ []

-- (1.000000) can0 20000000#0
abbrev pub malformed-and-large : List ℕ
malformed-and-large = 40 ∷ 49 ∷ 46 ∷ 48 ∷ 48 ∷ 48 ∷ 48 ∷ 48 ∷ 48 ∷ 41 ∷ 32 ∷ 99 ∷ 97 ∷ 110 ∷ 48 ∷ 32 ∷ 50 ∷ 48 ∷ 48 ∷ 48 ∷ 48 ∷ 48 ∷ 48 ∷ 48 ∷ 35 ∷ 48 ∷ []

-- (1.000000) can0 18CEC9EB#00 R
abbrev pub direction : List ℕ
direction = 40 ∷ 49 ∷ 46 ∷ 48 ∷ 48 ∷ 48 ∷ 48 ∷ 48 ∷ 48 ∷ 41 ∷ 32 ∷ 99 ∷ 97 ∷ 110 ∷ 48 ∷ 32 ∷ 49 ∷ 56 ∷ 67 ∷ 69 ∷ 67 ∷ 57 ∷ 69 ∷ 66 ∷ 35 ∷ 48 ∷ 48 ∷ 32 ∷ 82 ∷ []

-- (1.000000)can0 18CEC9EB#00
abbrev pub no-blank : List ℕ
no-blank = 40 ∷ 49 ∷ 46 ∷ 48 ∷ 48 ∷ 48 ∷ 48 ∷ 48 ∷ 48 ∷ 41 ∷ 99 ∷ 97 ∷ 110 ∷ 48 ∷ 32 ∷ 49 ∷ 56 ∷ 67 ∷ 69 ∷ 67 ∷ 57 ∷ 69 ∷ 66 ∷ 35 ∷ 48 ∷ 48 ∷ []

-- (1.00000) can0 18CEC9EB#00
abbrev pub five-places : List ℕ
five-places = 40 ∷ 49 ∷ 46 ∷ 48 ∷ 48 ∷ 48 ∷ 48 ∷ 48 ∷ 41 ∷ 32 ∷ 99 ∷ 97 ∷ 110 ∷ 48 ∷ 32 ∷ 49 ∷ 56 ∷ 67 ∷ 69 ∷ 67 ∷ 57 ∷ 69 ∷ 66 ∷ 35 ∷ 48 ∷ 48 ∷ []

pub record Worked : Type 0 where
  -- document 02's line
  pub request-read : line_read request ≡ Ok (Some (record { identifier = 0x18CEC9EB; stamp = 12003; «data» = record { count = 4; bytes = 0x05 ∷ 0x02 ∷ 0x3E ∷ 0x00 ∷ 0 ∷ 0 ∷ 0 ∷ 0 ∷ [] } }))
  -- the stamp runs round
  pub around-read : line_read around ≡ frame_said 0x18CEC9EB 0 []
  -- the last stamp before it does, and microseconds rounded down
  pub before-around-read : line_read before-around ≡ frame_said 0x18CEC9EB 4294967295 []
  -- two blanks, small letters, the largest identifier
  pub long-ago-read : line_read long-ago ≡ frame_said 0x1FFFFFFF 1989975385 (0x0A ∷ 0x0B ∷ [])
  -- passed over
  pub three-digits-read : line_read three_digits ≡ Ok None
  -- 2
  pub large-read : line_read large ≡ Err (refusal 2)
  -- 25: a remote frame
  pub remote-read : line_read remote ≡ Err (refusal 25)
  -- 25: CAN FD
  pub flexible-read : line_read flexible ≡ Err (refusal 25)
  -- 25: nine bytes
  pub nine-bytes-read : line_read nine-bytes ≡ Err (refusal 25)
  -- 25: an odd digit
  pub odd-read : line_read odd ≡ Err (refusal 25)
  -- 25 before 2
  pub malformed-and-large-read : line_read malformed-and-large ≡ Err (refusal 25)
  -- 25: a direction behind the data
  pub direction-read : line_read direction ≡ Err (refusal 25)
  -- 25: no blank
  pub no-blank-read : line_read no-blank ≡ Err (refusal 25)
  -- 25: five digits of microseconds
  pub five-places-read : line_read five-places ≡ Err (refusal 25)
  -- written: (4294967.295000) can0 18CEC9EB#05FF and (0.000000) can0 00000000#
  pub last-stamp : line_text 0x18CEC9EB (0x05 ∷ 0xFF ∷ []) 4294967295 ≡ 40 ∷ 52 ∷ 50 ∷ 57 ∷ 52 ∷ 57 ∷ 54 ∷ 55 ∷ 46 ∷ 50 ∷ 57 ∷ 53 ∷ 48 ∷ 48 ∷ 48 ∷ 41 ∷ 32 ∷ 99 ∷ 97 ∷ 110 ∷ 48 ∷ 32 ∷ 49 ∷ 56 ∷ 67 ∷ 69 ∷ 67 ∷ 57 ∷ 69 ∷ 66 ∷ 35 ∷ 48 ∷ 53 ∷ 70 ∷ 70 ∷ []
  pub first-stamp : line_text 0 [] 0 ≡ 40 ∷ 48 ∷ 46 ∷ 48 ∷ 48 ∷ 48 ∷ 48 ∷ 48 ∷ 48 ∷ 41 ∷ 32 ∷ 99 ∷ 97 ∷ 110 ∷ 48 ∷ 32 ∷ 48 ∷ 48 ∷ 48 ∷ 48 ∷ 48 ∷ 48 ∷ 48 ∷ 48 ∷ 35 ∷ []

-- 4294967 in decimal
seven-digits : decimal 4294967 ≡ 52 ∷ 50 ∷ 57 ∷ 52 ∷ 57 ∷ 54 ∷ 55 ∷ []
unfolding decimal_in pick
seven-digits = sym (decimal-in 7 4294967 (omega arith) (omega arith))

one-digit : decimal 0 ≡ 48 ∷ []
one-digit = decimal-one 0 (omega arith)

pub worked : Worked
unfolding pick both hex_digit hex between digit_value is_digit value_from all_digits stamp_of number_of_name eight run_length end_of part digits_in pairs_from
    dot_at interface_at gap_at is_three mark_at line_bytes end_at timed parted named begins line_stamp line_number said line_read hexes millis four_bytes line_text
worked = record {
  request-read = refl;
  around-read = refl;
  before-around-read = refl;
  long-ago-read = refl;
  three-digits-read = refl;
  large-read = refl;
  remote-read = refl;
  flexible-read = refl;
  nine-bytes-read = refl;
  odd-read = refl;
  malformed-and-large-read = refl;
  direction-read = refl;
  no-blank-read = refl;
  five-places-read = refl;
  last-stamp = rw seven-digits;
  first-stamp = rw one-digit;
}
