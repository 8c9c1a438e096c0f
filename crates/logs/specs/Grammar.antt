-- The form of a line (document 02, 2026-02), for a reader: `(seconds.microseconds) interface ID#DATA` as parts in a row, and what they say.
use Rattle.std.specs.Prelude.{◌≡◌, Bool, true, List, [], ◌∷◌, ◌++◌, ◌⊎◌, ℕ, ◌+◌, ◌*◌, ◌/◌, ◌%◌, ◌^◌, ◌≤◌, length}
use Rattle.text.specs.Digits.{between, digit_value, is_digit, value_from}

-- every byte of a text has p
pub data Each (p : ℕ → Bool) : List ℕ → Type 0 where
  none : Each p []
  one : {b : ℕ} {bs : List ℕ} → p b ≡ true → Each p bs → Each p (b ∷ bs)

-- what each part is made of: decimal digits; one blank or more before the interface, bytes 33 to 126; "three-digit identifiers", "eight hex
-- digits"; "more than 8 data bytes included": two digits a byte
pub record Made (seconds micros blanks interface name digits : List ℕ) : Type 0 where
  pub seconds_digits : Each (is_digit 10) seconds
  pub seconds_some : 1 ≤ length seconds
  pub micros_digits : Each (is_digit 10) micros
  pub micros_six : length micros ≡ 6
  pub blanks_blank : Each (between 32 32) blanks
  pub blanks_some : 1 ≤ length blanks
  pub interface_shown : Each (between 33 126) interface
  pub interface_some : 1 ≤ length interface
  pub name_digits : Each (is_digit 16) name
  pub name_size : (length name ≡ 3) ⊎ (length name ≡ 8)
  pub data_digits : Each (is_digit 16) digits
  pub data_even : length digits % 2 ≡ 0
  pub data_few : length digits ≤ 16

-- "One line is `(seconds.microseconds) interface ID#DATA`", without its newline: 40 `(`, 46 `.`, 41 `)`, 32 a blank, 35 `#`; at most 255 bytes
pub record IsLine (l seconds micros blanks interface name digits : List ℕ) : Type 0 where
  pub whole : l ≡ 40 ∷ (seconds ++ (46 ∷ (micros ++ (41 ∷ (blanks ++ (interface ++ (32 ∷ (name ++ (35 ∷ digits)))))))))
  pub short : length l ≤ 255
  pub made : Made seconds micros blanks interface name digits

-- a text that has the form
pub record Formed (l : List ℕ) : Type 0 where
  pub seconds : List ℕ
  pub micros : List ℕ
  pub blanks : List ℕ
  pub interface : List ℕ
  pub name : List ℕ
  pub digits : List ℕ
  pub is : IsLine l seconds micros blanks interface name digits

-- "the stamp is whole milliseconds rounded down, modulo 2^32"
unfoldable pub stamp_of : List ℕ → List ℕ → ℕ
stamp_of seconds micros = (value_from 10 0 seconds * 1000 + value_from 10 0 micros / 1000) % 2 ^ 32

-- the number that an identifier's digits say
unfoldable pub number_of_name : List ℕ → ℕ
number_of_name name = value_from 16 0 name

-- the bytes that pairs of digits say
unfoldable pub bytes_of : List ℕ → List ℕ
bytes_of [] = []
bytes_of (a ∷ []) = []
bytes_of (a ∷ b ∷ rest) = (digit_value a * 16 + digit_value b) ∷ bytes_of rest
