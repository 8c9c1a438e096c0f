-- The theorems of numbers as text: a written number says itself and nothing else, what is read is exactly what the digits say, and a text is put
-- whole or not at all. Each statement can be read without its proof. The worked numbers are in Worked.
use Rattle.std.specs.Prelude.{Some, None}
use mathlib.Core.Path.{◌≡◌, refl, sym, ap, ◌∙◌}
use mathlib.Core.Bool.{Bool, true, false}
use mathlib.Core.List.{List, [], ◌∷◌, ◌++◌}
use Prim.Native.Nat.{ℕ, zero, suc, ◌+◌, ◌-◌, ◌*◌, ◌/◌, ◌%◌, ◌^◌, ◌≤◌, ◌<◌}
use native.Mathlib.Nat.{pow-suc}
use native.Mathlib.Omega.{arith}
use borrow.Author.Tests.{ltb-true}
use lib.Dec.{ltb}
use lib.ListN.{length, take, drop}
use lib.Seq.{length-take-le, drop_at}
use Rattle.identifiers.specs.Choice.{pick}
use Rattle.identifiers.proofs.LawsBytes.{take-written, front-stays, back-stays}
use Rattle.identifiers.proofs.LawsChoice.{was-taken}
use Rattle.text.specs.Digits.{decimal_in, decimal, hex, digit_value, value_from}
use Rattle.text.specs.Putting.{PutsIfFits}
use Rattle.text.specs.Reading.{all_digits, is_number, digits_read}
use Rattle.text.proofs.LawsDigits.{small-enough, value-append, length-hex}
use Rattle.text.proofs.LawsPutting.{put-fits, put-not, if-fits-length}
use Rattle.text.proofs.LawsReading.{is-number, number_is, number_read, none_read, digits_decimal, digits-hex, decimal-first}
use Rattle.text.proofs.LawsValue.{worth-decimal, worth-capital, worth-small, digit-decimal, digit-says, Worth, decimal_digit, capital-letter, small-letter, any-other, worth}

-- ---- written: the digits of a number say that number, in decimal every number, in two hexadecimal digits every byte
pub decimal-in-says : (places n : ℕ) → n < 10 ^ places → value_from 10 0 (decimal_in places n) ≡ n
unfolding decimal_in value_from pick
decimal-in-says zero n h = omega arith
decimal-in-says (suc p) n h =
    let l : n < 10 ^ p * 10 = rw pow-suc at h in
    let front : value_from 10 0 (decimal_in p (n / 10)) ≡ n / 10 = decimal-in-says p (n / 10) (omega arith) in
    by_digits (ltb n 10) refl front
  where
    by_digits : (t : Bool) → ltb n 10 ≡ t → value_from 10 0 (decimal_in p (n / 10)) ≡ n / 10 → value_from 10 0 (pick t ((48 + n) ∷ []) (decimal_in p (n / 10) ++ ((48 + n % 10) ∷ []))) ≡ n
    by_digits true e i = omega (arith, digit-decimal n (ltb-true _ _ e))
    by_digits false e i = value-append 10 0 (decimal_in p (n / 10)) (48 + n % 10) ∙ omega (arith, digit-decimal (n % 10) (omega arith))

pub decimal-says : (n : ℕ) → value_from 10 0 (decimal n) ≡ n
unfolding decimal
decimal-says n = decimal-in-says (suc n) n (small-enough n)

pub hex-says : (n : ℕ) → n < 256 → value_from 16 0 (hex n) ≡ n
unfolding hex value_from
hex-says n h = omega (arith, digit-says (n / 16) (omega arith), digit-says (n % 16) (omega arith))

-- two numbers are never written alike
pub decimal-one-reading : (m n : ℕ) → decimal m ≡ decimal n → m ≡ n
decimal-one-reading m n e = sym (decimal-says m) ∙ ap (value_from 10 0) e ∙ decimal-says n

pub hex-one-reading : (m n : ℕ) → m < 256 → n < 256 → hex m ≡ hex n → m ≡ n
hex-one-reading m n a b e = sym (hex-says m a) ∙ ap (value_from 16 0) e ∙ hex-says n b

-- and a number is written in one way: decimal digits with no zero in front, save a zero that stands alone, are the number that they say
pub decimal-only : (b : ℕ) (text : List ℕ) (n : ℕ) → all_digits 10 (b ∷ text) ≡ true → (b ≡ 48 → text ≡ []) → value_from 10 0 (b ∷ text) ≡ n → b ∷ text ≡ decimal n
decimal-only b text n h z e = sym (decimal-first b text h z) ∙ ap decimal e

-- ---- read: a number is answered exactly where there are so many bytes, each a digit of the base, and what they say is below 2^32
pub record Says (base places : ℕ) (text : List ℕ) (n : ℕ) : Type 0 where
  pub long : length text ≡ places
  pub digits : all_digits base text ≡ true
  pub value : value_from base 0 text ≡ n
  pub small : n < 2 ^ 32

number-says : (base places : ℕ) (text : List ℕ) (n : ℕ) → digits_read base places text ≡ Some n → Says base places text n
unfolding digits_read
number-says base places text n e =
    let other : None ≡ Some n → ⊥ = (λ q. let z : ◌≡◌ {A = ℕ} 0 1 = cc in omega arith) in
    let t = was-taken (is_number base places text) (Some (value_from base 0 text)) None (Some n) other e in
    let v : value_from base 0 text ≡ n = cc in
    let i = number_is base places text t.0 in
    record { long = i.0; digits = i.1; value = v; small = omega (arith, i.2) }

says-number : (base places : ℕ) (text : List ℕ) (n : ℕ) → Says base places text n → digits_read base places text ≡ Some n
says-number base places text n s = sym (number_read base places text (is-number base places text s.long s.digits (omega (arith, s.value, s.small)))) ∙ ap Some s.value

pub read-exactly : (base places : ℕ) (text : List ℕ) (n : ℕ)
    → (digits_read base places text ≡ Some n → Says base places text n) × (Says base places text n → digits_read base places text ≡ Some n)
read-exactly base places text n = (number-says base places text n, says-number base places text n)

-- and none is answered exactly where the bytes say no such number
pub no-number-exactly : (base places : ℕ) (text : List ℕ)
    → (digits_read base places text ≡ None → (n : ℕ) → Says base places text n → ⊥) × (((n : ℕ) → Says base places text n → ⊥) → digits_read base places text ≡ None)
no-number-exactly base places text =
    ((λ e n s. let q = says-number base places text n s in let z : ◌≡◌ {A = ℕ} 0 1 = cc in omega arith), λ none. by_number (is_number base places text) refl none)
  where
    by_number : (t : Bool) → is_number base places text ≡ t → ((n : ℕ) → Says base places text n → ⊥) → digits_read base places text ≡ None
    by_number true e none = absurd (none (value_from base 0 text) (number-says base places text (value_from base 0 text) (sym (number_read base places text e))))
    by_number false e none = sym (none_read base places text e)

-- what was written is read back: a number below 2^32 from its decimal, a byte from its two hexadecimal digits
pub decimal-read : (n : ℕ) → n < 2 ^ 32 → digits_read 10 (length (decimal n)) (decimal n) ≡ Some n
decimal-read n h = says-number 10 (length (decimal n)) (decimal n) n (record { long = refl; digits = digits_decimal n; value = decimal-says n; small = h })

pub hex-read : (n : ℕ) → n < 256 → digits_read 16 2 (hex n) ≡ Some n
hex-read n h = says-number 16 2 (hex n) n (record { long = length-hex n; digits = digits-hex n h; value = hex-says n h; small = omega arith })

-- ---- the digits: exactly the 22 bytes 0 to 9, A to F and a to f are worth less than 16, every other byte 16, and exactly 0 to 9 less than 10
pub data HexDigit (b : ℕ) : Type 0 where
  zero-to-nine : 48 ≤ b → b ≤ 57 → HexDigit b
  capital-a-to-f : 65 ≤ b → b ≤ 70 → HexDigit b
  small-a-to-f : 97 ≤ b → b ≤ 102 → HexDigit b

pub hex-digits : (b : ℕ) → (digit_value b < 16 → HexDigit b) × (HexDigit b → digit_value b < 16)
hex-digits b = (by-worth (worth b), by-range)
  where
    by-worth : {v : ℕ} → Worth b v → v < 16 → HexDigit b
    by-worth (decimal_digit l m) h = zero-to-nine l m
    by-worth (capital-letter l m) h = capital-a-to-f l m
    by-worth (small-letter l m) h = small-a-to-f l m
    by-worth any-other h = absurd (omega arith)

    by-range : HexDigit b → digit_value b < 16
    by-range (zero-to-nine l m) = omega (arith, worth-decimal b l m)
    by-range (capital-a-to-f l m) = omega (arith, worth-capital b l m)
    by-range (small-a-to-f l m) = omega (arith, worth-small b l m)

pub no-other-digit : (b : ℕ) → (HexDigit b → ⊥) → digit_value b ≡ 16
no-other-digit b h = by-worth (worth b)
  where
    by-worth : {v : ℕ} → Worth b v → v ≡ 16
    by-worth (decimal_digit l m) = absurd (h (zero-to-nine l m))
    by-worth (capital-letter l m) = absurd (h (capital-a-to-f l m))
    by-worth (small-letter l m) = absurd (h (small-a-to-f l m))
    by-worth any-other = refl

pub decimal-digits : (b : ℕ) → (digit_value b < 10 → (48 ≤ b) × (b ≤ 57)) × ((48 ≤ b) × (b ≤ 57) → digit_value b < 10)
decimal-digits b = (by-worth (worth b), λ r. omega (arith, worth-decimal b r.0 r.1))
  where
    by-worth : {v : ℕ} → Worth b v → v < 10 → (48 ≤ b) × (b ≤ 57)
    by-worth (decimal_digit l m) h = (l, m)
    by-worth (capital-letter l m) h = absurd (omega arith)
    by-worth (small-letter l m) h = absurd (omega arith)
    by-worth any-other h = absurd (omega arith)

-- a small letter is worth what its capital is
pub small-as-capital : (b : ℕ) → 65 ≤ b → b ≤ 70 → digit_value (b + 32) ≡ digit_value b
small-as-capital b l h = omega (arith, worth-small (b + 32) (omega arith) (omega arith), worth-capital b l h)

-- ---- put: where the text fits it stands from the place up to the end that is answered, and what is before and behind it is as it was
pub record PutWhole (before : List ℕ) (at : ℕ) (text : List ℕ) (end : ℕ) (after : List ℕ) : Type 0 where
  pub ends : end ≡ at + length text
  pub stands : drop at (take end after) ≡ text
  pub front : take at after ≡ take at before
  pub behind : drop end after ≡ drop end before
  pub long : length after ≡ length before

pub put_whole : {before text after : List ℕ} {at end : ℕ} → at + length text ≤ length before → PutsIfFits before at text end after → PutWhole before at text end after
put_whole {before} {text} {after} {at} {end} h p =
    let q = put-fits h p in
    let l : take end after ≡ take at before ++ text = ap (λ (n : ℕ). take n after) q.ends ∙ ap (take (at + length text)) q.holds ∙ take-written before at text h in
    record {
      ends = q.ends;
      stands = ap (drop at) l ∙ drop_at (take at before) text at (length-take-le at before (omega arith));
      front = ap (take at) q.holds ∙ front-stays before at text at (omega arith);
      behind = ap (drop end) q.holds ∙ back-stays before at text end (omega (arith, q.ends));
      long = if-fits-length p;
    }

-- where it does not fit, nothing is written
pub put-nothing : {before text after : List ℕ} {at end : ℕ} → length before < at + length text → PutsIfFits before at text end after → (end ≡ at) × (after ≡ before)
put-nothing h p = put-not h p

-- what was put is read back from where it stands
pub decimal-put-read : {before after : List ℕ} {at end : ℕ} (n : ℕ) → n < 2 ^ 32 → at + length (decimal n) ≤ length before → PutsIfFits before at (decimal n) end after
    → digits_read 10 (end - at) (drop at (take end after)) ≡ Some n
decimal-put-read {at = at} {end = end} n h r p =
    let w = put_whole r p in
    let places : end - at ≡ length (decimal n) = omega (arith, w.ends) in
    rw (places, w.stands) (decimal-read n h)

pub hex-put-read : {before after : List ℕ} {at end : ℕ} (n : ℕ) → n < 256 → at + 2 ≤ length before → PutsIfFits before at (hex n) end after
    → digits_read 16 2 (drop at (take end after)) ≡ Some n
hex-put-read n h r p = let w = put_whole (omega (arith, length-hex n)) p in rw w.stands (hex-read n h)
