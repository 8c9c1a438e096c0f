-- Laws of digits as they are written: a number in decimal by the places that are left, how long it is, one digit more, and where the newlines are.
use mathlib.Core.Path.{◌≡◌, refl, ap, ◌∙◌}
use mathlib.Core.Bool.{Bool, true, false, cond}
use mathlib.Core.List.{List, [], ◌∷◌, ◌++◌}
use Prim.Native.Nat.{ℕ, zero, suc, ◌+◌, ◌-◌, ◌*◌, ◌/◌, ◌%◌, ◌^◌, ◌≤◌, ◌<◌}
use native.Mathlib.Nat.{pow-suc}
use native.Mathlib.Omega.{arith}
use borrow.Author.Tests.{ltb-true, ltb-false, lt-ltb, le-ltb, ne_eqb}
use lib.Dec.{eqb, ltb}
use lib.ListN.{length, length-append}
use Rattle.std.specs.List.{count_by}
use Rattle.std.proofs.lemmas.List.Recursion.{is_count_by}
use Rattle.identifiers.specs.Below.{list_below}
use Rattle.identifiers.specs.Choice.{pick}
use Rattle.identifiers.proofs.LawsBelow.{list-none, list-suc}
use Rattle.identifiers.proofs.LawsChoice.{by-test}
use Rattle.text.specs.Digits.{decimal_in, decimal, hex_digit, hex, newline, digit_value, value_from, newlines}

-- ---- at most so many places
pub decimal-in-none : (places n : ℕ) → places ≡ 0 → decimal_in places n ≡ []
unfolding decimal_in
decimal-in-none places n e = rw e

pub decimal-in-one : (places n : ℕ) → (places ≡ 0 → ⊥) → n < 10 → decimal_in places n ≡ (48 + n) ∷ []
unfolding decimal_in pick
decimal-in-one zero n h l = absurd (h refl)
decimal-in-one (suc p) n h l = rw (lt-ltb n 10 l)

pub decimal-in-more : (places n : ℕ) → (places ≡ 0 → ⊥) → 10 ≤ n → decimal_in places n ≡ decimal_in (places - 1) (n / 10) ++ ((48 + n % 10) ∷ [])
unfolding decimal_in pick
decimal-in-more zero n h l = absurd (h refl)
decimal-in-more (suc p) n h l = let e : p ≡ suc p - 1 = omega arith in rw (le-ltb n 10 l) (ap (λ (k : ℕ). decimal_in k (n / 10) ++ ((48 + n % 10) ∷ [])) e)

pub length-decimal-in : (places n : ℕ) → length (decimal_in places n) ≤ places
unfolding decimal_in
length-decimal-in zero n = omega arith
length-decimal-in (suc p) n =
    let one : 1 ≤ suc p = omega arith in
    let more : length (decimal_in p (n / 10) ++ ((48 + n % 10) ∷ [])) ≤ suc p = omega (arith, length-append (decimal_in p (n / 10)) ((48 + n % 10) ∷ []), length-decimal-in p (n / 10)) in
    (by-test {P = λ (l : List ℕ). length l ≤ suc p} (ltb n 10) (λ e. record { holds = one }) (λ e. record { holds = more })).holds

-- ---- as many places as there are
-- a number of two places or more is not below 10
places-left : (p n : ℕ) → 10 ≤ n → n < 10 ^ suc p → 1 ≤ p
places-left zero n h l = absurd (omega arith)
places-left (suc p) n h l = omega arith

-- enough places are enough
enough : (p q n : ℕ) → 1 ≤ p → 1 ≤ q → n < 10 ^ p → n < 10 ^ q → decimal_in p n ≡ decimal_in q n
unfolding decimal_in pick
enough zero q n a b h l = absurd (omega arith)
enough (suc p) zero n a b h l = absurd (omega arith)
enough (suc p) (suc q) n a b h l = by_digits (ltb n 10) refl (enough p q (n / 10))
  where
    by_digits : (t : Bool) → ltb n 10 ≡ t → (1 ≤ p → 1 ≤ q → n / 10 < 10 ^ p → n / 10 < 10 ^ q → decimal_in p (n / 10) ≡ decimal_in q (n / 10))
        → pick t ((48 + n) ∷ []) (decimal_in p (n / 10) ++ ((48 + n % 10) ∷ [])) ≡ pick t ((48 + n) ∷ []) (decimal_in q (n / 10) ++ ((48 + n % 10) ∷ []))
    by_digits true e front = refl
    by_digits false e front =
        let m : 10 ≤ n = ltb-false _ _ e in
        let i : n < 10 ^ p * 10 = rw pow-suc at h in
        let j : n < 10 ^ q * 10 = rw pow-suc at l in
        ap (λ (x : List ℕ). x ++ ((48 + n % 10) ∷ [])) (front (places-left p n m h) (places-left q n m l) (omega arith) (omega arith))

below_power : (n : ℕ) → n < 10 ^ n
below_power zero = omega arith
below_power (suc n) = rw pow-suc (omega (arith, below_power n))

pub small-enough : (n : ℕ) → n < 10 ^ suc n
small-enough n = rw pow-suc (omega (arith, below_power n))

pub decimal-in : (places n : ℕ) → 1 ≤ places → n < 10 ^ places → decimal_in places n ≡ decimal n
unfolding decimal
decimal-in places n a h = enough places (suc n) n a (omega arith) h (small-enough n)

pub decimal-one : (n : ℕ) → n < 10 → decimal n ≡ (48 + n) ∷ []
unfolding decimal
decimal-one n l = decimal-in-one (suc n) n (λ e. omega arith) l

pub decimal-more : (n : ℕ) → 10 ≤ n → decimal n ≡ decimal (n / 10) ++ ((48 + n % 10) ∷ [])
unfolding decimal
decimal-more n l =
    let s : n < 10 ^ n * 10 = rw pow-suc at (small-enough n) in
    let e : suc n - 1 ≡ n = omega arith in
    decimal-in-more (suc n) n (λ e. omega arith) l
    ∙ ap (λ (k : ℕ). decimal_in k (n / 10) ++ ((48 + n % 10) ∷ [])) e
    ∙ ap (λ (x : List ℕ). x ++ ((48 + n % 10) ∷ [])) (decimal-in n (n / 10) (omega arith) (omega arith))

pub length-decimal : (places n : ℕ) → n < 10 ^ places → 1 ≤ places → length (decimal n) ≤ places
length-decimal places n h a = rw (← decimal-in places n a h) (length-decimal-in places n)

pub length-one : (n : ℕ) → n < 10 → length (decimal n) ≡ 1
length-one n l = ap length (decimal-one n l)

pub length_more : (n : ℕ) → 10 ≤ n → length (decimal n) ≡ length (decimal (n / 10)) + 1
length_more n l = ap length (decimal-more n l) ∙ length-append (decimal (n / 10)) ((48 + n % 10) ∷ [])

-- no number is without a digit
pub length_some : (n : ℕ) → 1 ≤ length (decimal n)
length_some n = by_size (ltb n 10) refl
  where
    by_size : (t : Bool) → ltb n 10 ≡ t → 1 ≤ length (decimal n)
    by_size true e = omega (arith, length-one n (ltb-true _ _ e))
    by_size false e = omega (arith, length_more n (ltb-false _ _ e))

-- a byte is its two digits
pub hex-is : (n : ℕ) → hex n ≡ hex_digit (n / 16) ∷ hex_digit (n % 16) ∷ []
unfolding hex
hex-is n = refl

pub length-hex : (n : ℕ) → length (hex n) ≡ 2
unfolding hex
length-hex n = refl

-- ---- what the digits say
pub value-append : (base n : ℕ) (xs : List ℕ) (b : ℕ) → value_from base n (xs ++ (b ∷ [])) ≡ value_from base n xs * base + digit_value b
unfolding value_from
value-append base n [] b = refl
value-append base n (x ∷ xs) b = value-append base (n * base + digit_value x) xs b

-- ---- the newlines
pub newlines-append : (xs ys : List ℕ) → newlines (xs ++ ys) ≡ newlines xs + newlines ys
newlines-append [] ys = omega arith
newlines-append (x ∷ xs) ys = omega (arith, newlines-append xs ys)

-- as code counts them
pub newlines_count : (text : List ℕ) → newlines text ≡ count_by (λ b. eqb b 10) text
unfolding pick
newlines_count = is_count_by newlines (λ b. eqb b 10) refl (λ b text. one-more (eqb b 10) (newlines text))
  where
    one-more : (test : Bool) (n : ℕ) → pick test 1 0 + n ≡ cond test (1 + n) n
    one-more true n = refl
    one-more false n = omega arith

-- a byte other than 10 ends no line
pub not-newline : (b : ℕ) → (b ≡ 10 → ⊥) → newlines (b ∷ []) ≡ 0
unfolding pick
not-newline b h = rw (ne_eqb b 10 h)

pub no-newline : (b : ℕ) → 10 < b → newlines (b ∷ []) ≡ 0
no-newline b h = not-newline b (λ e. omega arith)

pub one-newline : newlines newline ≡ 1
unfolding pick
one-newline = refl

pub newlines-decimal-in : (places n : ℕ) → newlines (decimal_in places n) ≡ 0
unfolding decimal_in
newlines-decimal-in zero n = refl
newlines-decimal-in (suc p) n =
    let front = newlines-decimal-in p (n / 10) in
    (by-test {P = λ (l : List ℕ). newlines l ≡ 0} (ltb n 10) (λ e. record { holds = no-newline (48 + n) (omega arith) })
    (λ e. record { holds = newlines-append (decimal_in p (n / 10)) ((48 + n % 10) ∷ []) ∙ omega (arith, front, no-newline (48 + n % 10) (omega arith)) })
    ).holds

pub newlines-decimal : (n : ℕ) → newlines (decimal n) ≡ 0
unfolding decimal
newlines-decimal n = newlines-decimal-in (suc n) n

digit-large : (d : ℕ) → 10 < hex_digit d
unfolding hex_digit
digit-large d =
    let decimal_digit : 10 < 48 + d = omega arith in
    let letter : 10 < 55 + d = omega arith in
    (by-test {P = λ (b : ℕ). 10 < b} (ltb d 10) (λ e. record { holds = decimal_digit }) (λ e. record { holds = letter })).holds

pub newlines-hex : (n : ℕ) → newlines (hex n) ≡ 0
unfolding hex
newlines-hex n =
    newlines-append (hex_digit (n / 16) ∷ []) (hex_digit (n % 16) ∷ [])
    ∙ omega (arith, no-newline (hex_digit (n / 16)) (digit-large (n / 16)), no-newline (hex_digit (n % 16)) (digit-large (n % 16)))

-- lines in a row
pub newlines-lines : (f : ℕ → List ℕ) (n : ℕ) → ((k : ℕ) → newlines (f k) ≡ 1) → newlines (list_below f n) ≡ n
newlines-lines f zero h = ap newlines (list-none f)
newlines-lines f (suc n) h = ap newlines (list-suc f n) ∙ omega (arith, newlines-append (list_below f n) (f n), newlines-lines f n h, h n)
