-- Numbers worked by hand: written in decimal and in hexadecimal, read, and put at the edge of a buffer, computed by the definitions that the
-- contracts cite.
use Rattle.std.specs.Prelude.{Some, None}
use mathlib.Core.Path.{◌≡◌, refl, sym, ◌∙◌}
use mathlib.Core.List.{List, [], ◌∷◌}
use Prim.Native.Nat.{ℕ}
use native.Mathlib.Omega.{arith}
use Rattle.identifiers.specs.Choice.{pick, both}
use Rattle.identifiers.proofs.LawsBytes.{puts-byte, ◌▸◌}
use Rattle.text.specs.Digits.{decimal_in, decimal, hex_digit, hex, between, digit_value, is_digit, value_from}
use Rattle.text.specs.Putting.{PutsIfFits}
use Rattle.text.specs.Reading.{all_digits, is_number, digits_read}
use Rattle.text.proofs.LawsDigits.{decimal-in}
use Rattle.text.proofs.LawsPutting.{put-fits, put-not}

-- "4294967295" and "4294967296"
abbrev largest : List ℕ
largest = 52 ∷ 50 ∷ 57 ∷ 52 ∷ 57 ∷ 54 ∷ 55 ∷ 50 ∷ 57 ∷ 53 ∷ []

abbrev one_more : List ℕ
one_more = 52 ∷ 50 ∷ 57 ∷ 52 ∷ 57 ∷ 54 ∷ 55 ∷ 50 ∷ 57 ∷ 54 ∷ []

-- five bytes, and "abc"
abbrev five : List ℕ
five = 1 ∷ 2 ∷ 3 ∷ 4 ∷ 5 ∷ []

abbrev abc : List ℕ
abc = 97 ∷ 98 ∷ 99 ∷ []

pub record Worked : Type 0 where
  -- "0", "9", "10", "65535", "4294967295"
  pub decimal-0 : decimal 0 ≡ 48 ∷ []
  pub decimal-9 : decimal 9 ≡ 57 ∷ []
  pub decimal-10 : decimal 10 ≡ 49 ∷ 48 ∷ []
  pub decimal-65535 : decimal 65535 ≡ 54 ∷ 53 ∷ 53 ∷ 51 ∷ 53 ∷ []
  pub decimal-largest : decimal 4294967295 ≡ largest
  -- "00", "0C", "FF"
  pub hex-0 : hex 0 ≡ 48 ∷ 48 ∷ []
  pub hex-12 : hex 0x0C ≡ 48 ∷ 67 ∷ []
  pub hex-255 : hex 255 ≡ 70 ∷ 70 ∷ []
  -- "7f" and "7F" are 127; "7G", "7" alone and no byte at all are no number of two digits
  pub small-letter : digits_read 16 2 (55 ∷ 102 ∷ []) ≡ Some 127
  pub capital-letter : digits_read 16 2 (55 ∷ 70 ∷ []) ≡ Some 127
  pub past-f : digits_read 16 2 (55 ∷ 71 ∷ []) ≡ None
  pub one-digit : digits_read 16 2 (55 ∷ []) ≡ None
  pub no_digit : digits_read 16 2 [] ≡ None
  -- "5"; "A" is no decimal digit; the largest number that is read, and one more
  pub decimal-5 : digits_read 10 1 (53 ∷ []) ≡ Some 5
  pub letter : digits_read 10 1 (65 ∷ []) ≡ None
  pub largest-read : digits_read 10 10 largest ≡ Some 4294967295
  pub too_large : digits_read 10 10 one_more ≡ None
  -- three bytes at 2 of five fill the buffer; at 3 they do not fit, and nothing changes
  pub fits : {end : ℕ} {after : List ℕ} → PutsIfFits five 2 abc end after → (end ≡ 5) × (after ≡ 1 ∷ 2 ∷ 97 ∷ 98 ∷ 99 ∷ [])
  pub past_the_end : {end : ℕ} {after : List ℕ} → PutsIfFits five 3 abc end after → (end ≡ 3) × (after ≡ five)

pub worked : Worked
unfolding pick both decimal_in decimal hex_digit hex between digit_value is_digit value_from all_digits is_number digits_read
worked = record {
  decimal-0 = refl;
  decimal-9 = refl;
  decimal-10 = refl;
  decimal-65535 = refl;
  decimal-largest = sym (decimal-in 10 4294967295 (omega arith) (omega arith));
  hex-0 = refl;
  hex-12 = refl;
  hex-255 = refl;
  small-letter = refl;
  capital-letter = refl;
  past-f = refl;
  one-digit = refl;
  no_digit = refl;
  decimal-5 = refl;
  letter = refl;
  largest-read = refl;
  too_large = refl;
  fits = λ p. let q = put-fits (omega arith) p in (q.ends, q.holds ∙ sym (puts-byte five 2 97 ▸ puts-byte _ 3 98 ▸ puts-byte _ 4 99).holds);
  past_the_end = λ p. put-not (omega arith) p;
}
