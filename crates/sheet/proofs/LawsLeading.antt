-- Laws of the digits in front of a number's last one: each by itself, and all of them with the last one.
use mathlib.Core.Path.{◌≡◌, refl, ◌∙◌}
use mathlib.Core.Bool.{Bool, true, false}
use mathlib.Core.List.{List, [], ◌∷◌, ◌++◌}
use Prim.Native.Nat.{ℕ, ◌+◌, ◌-◌, ◌/◌, ◌%◌, ◌≤◌, ◌<◌}
use native.Mathlib.Omega.{arith}
use borrow.Author.Tests.{eqb-true, eqb-false, eq-eqb, ne_eqb, ltb-true, ltb-false}
use lib.Dec.{eqb, ltb}
use lib.ListN.{length}
use Rattle.identifiers.specs.Bytes.{Puts}
use Rattle.identifiers.specs.Choice.{pick}
use Rattle.identifiers.proofs.LawsChoice.{pick_true, pick-false, by-test}
use Rattle.text.specs.Digits.{decimal_in}
use Rattle.text.proofs.LawsDigits.{decimal-in-none, decimal-in-one, decimal-in-more}
use Rattle.text.proofs.LawsPutting.{room-behind}
use Rattle.sheet.specs.Leading.{leading_digit}

-- ---- one digit
pub no-leading : (front : ℕ) → front ≡ 0 → leading_digit front ≡ []
unfolding leading_digit
no-leading front e = pick_true _ _ (eq-eqb front 0 e)

pub some-leading : (front : ℕ) → (front ≡ 0 → ⊥) → leading_digit front ≡ (48 + front % 10) ∷ []
unfolding leading_digit
some-leading front h = pick-false _ _ (ne_eqb front 0 h)

length-leading : (front : ℕ) → length (leading_digit front) ≤ 1
unfolding leading_digit
length-leading front =
    let none : 0 ≤ 1 = omega arith in
    let one : 1 ≤ 1 = omega arith in
    (by-test {P = λ (l : List ℕ). length l ≤ 1} (eqb front 0) (λ e. record { holds = none }) (λ e. record { holds = one })).holds

pub room-leading : (n front : ℕ) {before after : List ℕ} {at end : ℕ} → at + (1 + n) ≤ length before → Puts before at (leading_digit front) end after → end + n ≤ length after
room-leading n front h p = room-behind 1 n (length-leading front) h p

-- ---- all of them
-- the digits of what stands in front, at most so many; nothing where nothing does
abbrev leading : ℕ → ℕ → List ℕ
leading places front = pick (eqb front 0) [] (decimal_in places front)

no-places : (front : ℕ) → leading 0 front ≡ []
no-places front =
    let none = decimal-in-none 0 front refl in
    (by-test {P = λ (l : List ℕ). l ≡ []} (eqb front 0) (λ e. record { holds = refl }) (λ e. record { holds = none })).holds

-- a number: those in front, and its last digit
last-digit : (p n : ℕ) → decimal_in (p + 1) n ≡ leading p (n / 10) ++ ((48 + n % 10) ∷ [])
last-digit p n = by_size (ltb n 10) refl
  where
    by_size : (t : Bool) → ltb n 10 ≡ t → decimal_in (p + 1) n ≡ leading p (n / 10) ++ ((48 + n % 10) ∷ [])
    by_size true e =
        let l : n < 10 = ltb-true _ _ e in
        let digit : n % 10 ≡ n = omega arith in
        rw (pick_true [] (decimal_in p (n / 10)) (eq-eqb (n / 10) 0 (omega arith)), digit) (decimal-in-one (p + 1) n (λ z. omega arith) l)
    by_size false e =
        let l : 10 ≤ n = ltb-false _ _ e in
        let places : p + 1 - 1 ≡ p = omega arith in
        rw (pick-false [] (decimal_in p (n / 10)) (ne_eqb (n / 10) 0 (λ z. omega arith))) (rw places at (decimal-in-more (p + 1) n (λ z. omega arith) l))

-- those in front: the last of them, and those in front of it
leading-more : (p front before : ℕ) → before ≡ front / 10 → leading (p + 1) front ≡ leading p before ++ leading_digit front
leading-more p front before e = by_front (eqb front 0) refl
  where
    by_front : (t : Bool) → eqb front 0 ≡ t → leading (p + 1) front ≡ leading p before ++ leading_digit front
    by_front true z =
        let none : front ≡ 0 = eqb-true _ _ z in
        rw (no-leading front none, pick_true [] (decimal_in p before) (eq-eqb before 0 (omega arith))) (pick_true _ _ z)
    by_front false z =
        let some = eqb-false _ _ z in
        rw (some-leading front some, e) (pick-false _ _ z ∙ last-digit p front)

pub five-digits : (n : ℕ)
    → decimal_in 5 n ≡ leading_digit (n / 10000) ++ leading_digit (n / 1000) ++ leading_digit (n / 100) ++ leading_digit (n / 10) ++ ((48 + n % 10) ∷ [])
five-digits n =
    rw (last-digit 4 n, leading-more 3 (n / 10) (n / 100) (omega arith), leading-more 2 (n / 100) (n / 1000) (omega arith), leading-more 1 (n / 1000) (n / 10000) (omega arith), leading-more 0 (n / 10000) (n / 100000) (omega arith), no-places (n / 100000))
