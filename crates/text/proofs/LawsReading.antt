-- Laws of digits read: a loop that reads digit after digit, and how large a number so many digits say.
use Rattle.std.specs.Prelude.{Option, Some, None, Result, Ok, Err}
use Rattle.std.specs.Result.{OkIff, result_ok}
use mathlib.Core.Path.{◌≡◌, refl, sym, ap, ap₂, ◌∙◌}
use mathlib.Core.Bool.{Bool, true, false}
use mathlib.Core.List.{List, [], ◌∷◌, ◌++◌, append-nil, append_assoc}
use Prim.Native.Nat.{ℕ, zero, suc, ◌+◌, ◌*◌, ◌/◌, ◌%◌, ◌^◌, ◌≤◌, ◌<◌}
use native.Mathlib.Nat.{mul-le-mul_left, mul-le-mul_right, mul_assoc, pow-zero, pow-succ'}
use native.Mathlib.Numerals.{add-one}
use native.Mathlib.Omega.{arith}
use borrow.Author.Tests.{ltb-true, lt-ltb, le-ltb, eqb-true, eqb-false, eq-eqb, ne_eqb}
use lib.Dec.{eqb, ltb}
use lib.ListN.{length, get_or, drop, drop_of_length-le}
use lib.Seq.{drop-cons}
use Rattle.identifiers.specs.Choice.{both}
use Rattle.identifiers.proofs.LawsChoice.{taken, passed, stop, both_false, both_true, both-assoc, true-after, by-test}
use Rattle.text.specs.Digits.{decimal_in, decimal, hex_digit, hex, digit_value, is_digit, value_from}
use Rattle.text.specs.Reading.{all_digits, is_number, digits_read}
use Rattle.text.proofs.LawsDigits.{decimal-one, decimal-more}
use Rattle.text.proofs.LawsValue.{digit-decimal, digit-says, is-digit, no_digit, Worth, decimal_digit, capital-letter, small-letter, any-other, worth}

-- ---- what is read
module _ (base places : ℕ) (text : List ℕ) where
  pub is-number : length text ≡ places → all_digits base text ≡ true → value_from base 0 text < 2 ^ 32 → is_number base places text ≡ true
  unfolding is_number both
  is-number l d s = rw (eq-eqb _ _ l, d, lt-ltb _ _ s)

  pub number_is : is_number base places text ≡ true → (length text ≡ places) × (all_digits base text ≡ true) × (value_from base 0 text < 2 ^ 32)
  unfolding is_number
  number_is e = let t = both_true _ _ e in let u = both_true _ _ t.1 in (eqb-true _ _ t.0, u.0, ltb-true _ _ u.1)

  pub number_read : is_number base places text ≡ true → Some (value_from base 0 text) ≡ digits_read base places text
  unfolding digits_read
  number_read e = taken _ e refl

  pub none_read : is_number base places text ≡ false → None ≡ digits_read base places text
  unfolding digits_read
  none_read e = passed _ e refl

  pub other_length : (length text ≡ places → ⊥) → None ≡ digits_read base places text
  unfolding is_number
  other_length h = none_read (sym (stop _ (ne_eqb _ _ h)))

  pub other_byte : all_digits base text ≡ false → None ≡ digits_read base places text
  unfolding is_number
  other_byte e = none_read (ap (both (eqb (length text) places)) (sym (stop _ e)) ∙ both_false _)

  pub too_large : 2 ^ 32 ≤ value_from base 0 text → None ≡ digits_read base places text
  unfolding is_number
  too_large h = none_read (ap (λ (b : Bool). both (eqb (length text) places) (both (all_digits base text) b)) (le-ltb _ _ h) ∙ ap (both (eqb (length text) places)) (both_false _) ∙ both_false _)

-- ---- a loop that reads digit after digit
-- a number that is said already is part of what is said
pub value_grows : (base n : ℕ) (text : List ℕ) → 1 ≤ base → n ≤ value_from base n text
unfolding value_from
value_grows base n [] h = omega arith
value_grows base n (b ∷ text) h = omega (arith, mul-le-mul_left n h, value_grows base (n * base + digit_value b) text h)

-- i digits are passed, and they say the number: what the text says is what those to come say behind it
pub record ReadSoFar (base : ℕ) (text : List ℕ) (number i : ℕ) : Type 0 where
  pub says : value_from base 0 text ≡ value_from base number (drop i text)
  pub digits : all_digits base text ≡ all_digits base (drop i text)

pub reading-first : (base : ℕ) (text : List ℕ) → ReadSoFar base text 0 0
reading-first base text = record { says = refl; digits = refl }

module _ {base : ℕ} {text : List ℕ} {number i digit : ℕ} (r : ReadSoFar base text number i) (l : i < length text) (e : digit ≡ digit_value (get_or text i 0)) where
  pub reading-more : digit < base → ReadSoFar base text (number * base + digit) (i + 1)
  unfolding value_from all_digits both
  reading-more h =
      record {
        says = r.says ∙ rw (e, add-one, drop-cons text i 0 l);
        digits = r.digits ∙ rw (drop-cons text i 0 l, is-digit base (get_or text i 0) e h, add-one);
      }

  pub reading-stop : (places : ℕ) → base ≤ digit → None ≡ digits_read base places text
  unfolding all_digits
  reading-stop places h = other_byte base places text (r.digits ∙ rw (drop-cons text i 0 l) (sym (stop _ (no_digit base (get_or text i 0) e h))))

-- what a conversion says of the number that it was given, as `.ok()?` asks it
pub converted : {E : Type 0} (r : Result ℕ E) (P : Type 0) (m : ℕ) {o : Option ℕ} {n : ℕ} → OkIff r P m → o ≡ result_ok r → o ≡ Some n → n ≡ m
converted (Ok k) P m {n = n} h e w = let q : Some k ≡ Some n = sym e ∙ w in let v = h.1 in cc
converted (Err k) P m {n = n} h e w = let q : None ≡ Some n = sym e ∙ w in cc

pub not_converted : {E : Type 0} (r : Result ℕ E) (P : Type 0) (m : ℕ) {o : Option ℕ} → OkIff r P m → o ≡ result_ok r → o ≡ None → P → ⊥
not_converted (Ok k) P m h e w = let q : Some k ≡ None = sym e ∙ w in cc
not_converted (Err k) P m h e w = h

module _ {base : ℕ} {text : List ℕ} {number i : ℕ} (r : ReadSoFar base text number i) where
  pub reading-large : (places : ℕ) → 1 ≤ base → 2 ^ 32 ≤ number → None ≡ digits_read base places text
  reading-large places b h = too_large base places text (omega (arith, r.says, value_grows base number (drop i text) b))

  pub reading-done : (places : ℕ) → length text ≡ places → length text ≤ i → number < 2 ^ 32 → Some number ≡ digits_read base places text
  unfolding value_from all_digits
  reading-done places l h s =
      let value : value_from base 0 text ≡ number = r.says ∙ rw (drop_of_length-le text h) in
      let digits : all_digits base text ≡ true = r.digits ∙ rw (drop_of_length-le text h) in
      ap Some (sym value) ∙ number_read base places text (is-number base places text l digits (omega arith))

-- ---- the digits that are written
pub digits_append : (base : ℕ) (xs ys : List ℕ) → all_digits base xs ≡ true → all_digits base ys ≡ true → all_digits base (xs ++ ys) ≡ true
unfolding all_digits both
digits_append base [] ys a b = b
digits_append base (x ∷ xs) ys a b = let t = both_true (is_digit base x) (all_digits base xs) a in rw t.0 (digits_append base xs ys t.1 b)

-- digits one by one
pub digits-none : (base : ℕ) → all_digits base [] ≡ true
unfolding all_digits
digits-none base = refl

pub digits-first : (base b : ℕ) (xs : List ℕ) → all_digits base (b ∷ xs) ≡ both (is_digit base b) (all_digits base xs)
unfolding all_digits
digits-first base b xs = refl

pub digits_last : (base : ℕ) (xs : List ℕ) (b : ℕ) → all_digits base (xs ++ (b ∷ [])) ≡ both (all_digits base xs) (is_digit base b)
unfolding all_digits both
digits_last base [] b = true-after (is_digit base b)
digits_last base (x ∷ xs) b = ap (both (is_digit base x)) (digits_last base xs b) ∙ sym (both-assoc (is_digit base x) (all_digits base xs) (is_digit base b))

pub value_none : (base n : ℕ) → value_from base n [] ≡ n
unfolding value_from
value_none base n = refl

pub value-first : (base n b : ℕ) (xs : List ℕ) → value_from base n (b ∷ xs) ≡ value_from base (n * base + digit_value b) xs
unfolding value_from
value-first base n b xs = refl

pub one-digit : (base b : ℕ) {v : ℕ} → v ≡ digit_value b → v < base → all_digits base (b ∷ []) ≡ true
unfolding all_digits both
one-digit base b e h = rw (is-digit base b e h)

pub digits-decimal-in : (places n : ℕ) → all_digits 10 (decimal_in places n) ≡ true
unfolding decimal_in all_digits
digits-decimal-in zero n = refl
digits-decimal-in (suc p) n =
    let front = digits-decimal-in p (n / 10) in
    let l : n % 10 < 10 = omega arith in
    let last : all_digits 10 ((48 + n % 10) ∷ []) ≡ true = one-digit 10 (48 + n % 10) (sym (digit-decimal (n % 10) l)) l in
    (by-test {P = λ (x : List ℕ). all_digits 10 x ≡ true} (ltb n 10) (λ e. let h = ltb-true _ _ e in record { holds = one-digit 10 (48 + n) (sym (digit-decimal n h)) h })
    (λ e. record { holds = digits_append 10 (decimal_in p (n / 10)) ((48 + n % 10) ∷ []) front last })
    ).holds

pub digits_decimal : (n : ℕ) → all_digits 10 (decimal n) ≡ true
unfolding decimal
digits_decimal n = digits-decimal-in (suc n) n

pub digits-hex : (n : ℕ) → n < 256 → all_digits 16 (hex n) ≡ true
unfolding hex
digits-hex n h =
    let high : n / 16 < 16 = omega arith in
    let low : n % 16 < 16 = omega arith in
    digits_append 16 (hex_digit (n / 16) ∷ []) (hex_digit (n % 16) ∷ []) (one-digit 16 _ (sym (digit-says (n / 16) high)) high) (one-digit 16 _ (sym (digit-says (n % 16) low)) low)

-- ---- one way to write a number
-- a decimal digit is the byte that its value is written with
decimal-byte : (b : ℕ) → is_digit 10 b ≡ true → b ≡ 48 + digit_value b
unfolding is_digit
decimal-byte b h = by-worth (worth b) (ltb-true _ _ h)
  where
    by-worth : {v : ℕ} → Worth b v → v < 10 → b ≡ 48 + v
    by-worth (decimal_digit l m) s = omega arith
    by-worth (capital-letter l m) s = absurd (omega arith)
    by-worth (small-letter l m) s = absurd (omega arith)
    by-worth any-other s = absurd (omega arith)

-- digits behind a number that is not zero: the decimal of what they say is the number's, and they
pub decimal-behind : (n : ℕ) (text : List ℕ) → 1 ≤ n → all_digits 10 text ≡ true → decimal (value_from 10 n text) ≡ decimal n ++ text
unfolding value_from all_digits is_digit
decimal-behind n [] a h = sym (append-nil (decimal n))
decimal-behind n (b ∷ text) a h =
    let t = both_true _ _ h in
    let d : digit_value b < 10 = ltb-true _ _ t.0 in
    let front : (n * 10 + digit_value b) / 10 ≡ n = omega arith in
    let last : 48 + (n * 10 + digit_value b) % 10 ≡ b = omega (arith, decimal-byte b t.0) in
    decimal-behind (n * 10 + digit_value b) text (omega arith) t.1
    ∙ ap (λ (l : List ℕ). l ++ text) (decimal-more (n * 10 + digit_value b) (omega arith))
    ∙ append_assoc (decimal ((n * 10 + digit_value b) / 10)) ((48 + (n * 10 + digit_value b) % 10) ∷ []) text
    ∙ ap₂ (λ (m c : ℕ). decimal m ++ (c ∷ text)) front last

-- a first digit that is not zero, or that stands alone
pub decimal-first : (b : ℕ) (text : List ℕ) → all_digits 10 (b ∷ text) ≡ true → (b ≡ 48 → text ≡ []) → decimal (value_from 10 0 (b ∷ text)) ≡ b ∷ text
unfolding value_from all_digits is_digit
decimal-first b text h z =
    let t = both_true _ _ h in
    let d : digit_value b < 10 = ltb-true _ _ t.0 in
    let e = decimal-byte b t.0 in
    let one : decimal (0 * 10 + digit_value b) ≡ b ∷ [] = decimal-one (0 * 10 + digit_value b) (omega arith) ∙ ap (λ (c : ℕ). c ∷ []) (omega arith) in
    by_value (eqb b 48) refl one t e
  where
    by_value : (u : Bool) → eqb b 48 ≡ u → decimal (0 * 10 + digit_value b) ≡ b ∷ [] → (ltb (digit_value b) 10 ≡ true) × (all_digits 10 text ≡ true) → b ≡ 48 + digit_value b → decimal (value_from 10 (0 * 10 + digit_value b) text) ≡ b ∷ text
    by_value true q one t e = let n = z (eqb-true _ _ q) in ap (λ (l : List ℕ). decimal (value_from 10 (0 * 10 + digit_value b) l)) n ∙ one ∙ ap (λ (l : List ℕ). b ∷ l) (sym n)
    by_value false q one t e =
        let n : b ≡ 48 → ⊥ = eqb-false _ _ q in
        decimal-behind (0 * 10 + digit_value b) text (omega (arith, e)) t.1 ∙ ap (λ (l : List ℕ). l ++ text) one

-- ---- how large a number so many digits say
value-within : (base n : ℕ) (text : List ℕ) → all_digits base text ≡ true → value_from base n text < suc n * base ^ length text
unfolding value_from all_digits is_digit
value-within base n [] h = rw pow-zero (omega arith)
value-within base n (b ∷ text) h =
    let t = both_true _ _ h in
    let digit : digit_value b < base = ltb-true _ _ t.0 in
    let one : suc (n * base + digit_value b) ≤ suc n * base = omega arith in
    let more = mul-le-mul_right (base ^ length text) one in
    let same : suc n * base * base ^ length text ≡ suc n * base ^ suc (length text) = mul_assoc (suc n) base (base ^ length text) ∙ ap (λ (x : ℕ). suc n * x) (sym (pow-succ' base (length text))) in
    omega (arith, value-within base (n * base + digit_value b) text t.1, more, same)

pub value-below : (base : ℕ) (text : List ℕ) → all_digits base text ≡ true → value_from base 0 text < base ^ length text
value-below base text h = omega (arith, value-within base 0 text h)
