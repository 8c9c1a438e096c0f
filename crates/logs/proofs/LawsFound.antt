-- Laws of what the code finds in a text: decimal digits in a row, and what the digits between two places say.
use mathlib.Core.Path.{◌≡◌, refl, sym, ap, ◌∙◌, subst}
use mathlib.Core.Bool.{Bool, true, false, ◌&&◌}
use mathlib.Core.List.{List, [], ◌∷◌, ◌++◌}
use Prim.Native.Nat.{ℕ, ◌+◌, ◌*◌, ◌/◌, ◌%◌, ◌^◌, ◌≤◌, ◌<◌, ◌-◌, max}
use native.Mathlib.Nat.{mul-add-mod_self_right, div-add-mod', add-mul, mul_right_comm}
use native.Mathlib.Numerals.{add-one}
use native.Mathlib.Omega.{arith}
use borrow.Author.Tests.{le-leb, lt-leb}
use lib.Dec.{leb, ltb}
use lib.ListN.{length, get_or, take}
use lib.Seq.{take-suc, take_all}
use Rattle.std.specs.Prelude.{Option, Some, None}
use Rattle.std.specs.Bool.{then_some}
use Rattle.identifiers.specs.Choice.{pick, both}
use Rattle.identifiers.proofs.LawsChoice.{and_is, pick_true, pick-false, taken, passed, stop, so}
use Rattle.text.specs.Digits.{digit_value, value_from, is_digit}
use Rattle.text.specs.Reading.{all_digits}
use Rattle.text.proofs.LawsDigits.{value-append}
use Rattle.text.proofs.LawsReading.{digits-none, digits_last, value_none}
use Rattle.text.proofs.LawsValue.{digit-test, value-most, within, range-test, worth-decimal, decimal-test}
use Rattle.logs.specs.Parts.{part, digits_in, digits_said, value_said, end_of, Ran}
use Rattle.logs.proofs.LawsRuns.{end-past, end_more, end-stop, end-near, part_none, part-more}

-- ---- what digits say modulo 2^32
pub value-small : (b : ℕ) {v : ℕ} → v ≡ digit_value b → v ≤ 16
value-small b e = omega (arith, e, value-most b)

-- modulo m, only what is left of the front counts
pub front-mod : (m x base d : ℕ) → (x % m * base + d) % m ≡ (x * base + d) % m
front-mod m x base d =
    let e : x * base + d ≡ x / m * base * m + (x % m * base + d) =
    ap (λ (y : ℕ). y * base + d) (sym (div-add-mod' x m)) ∙ ap (λ (y : ℕ). y + d) (add-mul (x / m * m) (x % m) base ∙ ap (λ (y : ℕ). y + x % m * base) (mul_right_comm (x / m) m base)) ∙ omega arith in
    sym (ap (λ (y : ℕ). y % m) e ∙ mul-add-mod_self_right (x / m * base) m (x % m * base + d))

pub says_first : (base : ℕ) → 0 ≡ value_from base 0 [] % 2 ^ 32
says_first base = rw (value_none base 0)

pub says-more : (base : ℕ) (xs : List ℕ) (b : ℕ) {v d : ℕ} → v ≡ value_from base 0 xs % 2 ^ 32 → d ≡ digit_value b → (v * base + d) % 2 ^ 32 ≡ value_from base 0 (xs ++ (b ∷ [])) % 2 ^ 32
says-more base xs b e f = rw (value-append base 0 xs b, e, f) (front-mod (2 ^ 32) (value_from base 0 xs) base (digit_value b))

-- ---- decimal digits in a row
pub record Running (l : List ℕ) (from end value : ℕ) : Type 0 where
  pub behind : from ≤ end
  pub ends : end_of (is_digit 10) l end ≡ end_of (is_digit 10) l from
  pub says : value ≡ value_from 10 0 (part l from end) % 2 ^ 32
  pub small : value < 2 ^ 32
  pub near : end ≤ max from (length l)

pub running-first : (l : List ℕ) (from : ℕ) → Running l from from 0
running-first l from = record { behind = omega arith; ends = refl; says = rw (part_none l from) (says_first 10); small = omega arith; near = omega arith }

pub decimal-bounds : (b : ℕ) → (leb 48 b && leb b 57) ≡ true → (48 ≤ b) × (b ≤ 57)
decimal-bounds b q = within 48 57 b (sym (range-test 48 57 b) ∙ q)

is-decimal : (b : ℕ) {t : Bool} → (leb 48 b && leb b 57) ≡ t → is_digit 10 b ≡ t
is-decimal b q = sym (decimal-test b) ∙ sym (range-test 48 57 b) ∙ q

module _ {l : List ℕ} {from end value : ℕ} (r : Running l from end value) where
  pub running_more : end < length l → (leb 48 (get_or l end 0) && leb (get_or l end 0) 57) ≡ true → Running l from (end + 1) ((value * 10 + (get_or l end 0 - 48)) % 2 ^ 32)
  running_more h q =
      let b = decimal-bounds (get_or l end 0) q in
      record {
        behind = omega (arith, r.behind);
        ends = end_more (is_digit 10) l end h (is-decimal (get_or l end 0) q) ∙ r.ends;
        says = rw (part-more l from end r.behind h) (says-more 10 (part l from end) (get_or l end 0) r.says (sym (worth-decimal (get_or l end 0) b.0 b.1)));
        small = omega arith;
        near = omega arith;
      }

  ran : end ≡ end_of (is_digit 10) l from → Ran l from end value
  ran e = record { ends = e; says = r.says }

  pub running-stop : end < length l → (leb 48 (get_or l end 0) && leb (get_or l end 0) 57) ≡ false → Ran l from end value
  running-stop h q = ran (sym (end-stop (is_digit 10) l end h (is-decimal (get_or l end 0) q)) ∙ r.ends)

  pub running-past : length l ≤ end → Ran l from (max from (length l)) value
  running-past h =
      let e : end ≡ max from (length l) = omega (arith, r.near, r.behind) in
      subst (λ (k : ℕ). Ran l from k value) e (ran (sym (end-past (is_digit 10) l end h) ∙ r.ends))

module _ {l : List ℕ} {from end value : ℕ} (r : Ran l from end value) where
  pub ran-near : (m : ℕ) → from ≤ m → length l ≤ m → end ≤ m
  ran-near m a b = rw r.ends (end-near (is_digit 10) l from m a b)

  pub ran-small : value < 2 ^ 32
  ran-small = omega (arith, r.says)

-- ---- digits between two places: i of them looked at
pub record Reading (base : ℕ) (xs : List ℕ) (good : Bool) (value i : ℕ) : Type 0 where
  pub goods : good ≡ all_digits base (take i xs)
  pub says : value ≡ value_from base 0 (take i xs) % 2 ^ 32
  pub small : value < 2 ^ 32

pub reading-first : (base : ℕ) (xs : List ℕ) → Reading base xs true 0 0
reading-first base xs = record { goods = sym (digits-none base); says = says_first base; small = omega arith }

pub reading-more : {base : ℕ} {xs : List ℕ} {good : Bool} {value i digit : ℕ} → Reading base xs good value i → i < length xs → digit ≡ digit_value (get_or xs i 0)
    → Reading base xs (good && ltb digit base) ((value * base + digit) % 2 ^ 32) (i + 1)
reading-more {base} {xs} {good} {value} {i} {digit} r h e =
    let t : take (i + 1) xs ≡ take i xs ++ (get_or xs i 0 ∷ []) = ap (λ (k : ℕ). take k xs) (add-one i) ∙ take-suc xs i 0 h in
    record {
      goods = and_is good (ltb digit base) ∙ rw (t, digits_last base (take i xs) (get_or xs i 0), r.goods, digit-test base (get_or xs i 0) e);
      says = rw t (says-more base (take i xs) (get_or xs i 0) r.says e);
      small = omega arith;
    }

-- ---- a choice between a value and none
pub some_picked : {A : Type 0} (t : Bool) {x y : A} → Some x ≡ pick t (Some y) None → (t ≡ true) × (x ≡ y)
unfolding pick
some_picked true e = (refl, cc)
some_picked false e = cc

pub none_picked : {A : Type 0} (t : Bool) (y : A) → None ≡ pick t (Some y) None → t ≡ false
unfolding pick
none_picked true y e = cc
none_picked false y e = refl

pub none_unless : {A : Type 0} (t : Bool) (y : A) → (t ≡ true → ⊥) → None ≡ pick t (Some y) None
unfolding pick
none_unless true y n = absurd (n refl)
none_unless false y n = refl

-- ---- a flag beside a number, as an Option
pub some-found : (good : Bool) (value : ℕ) {o : Option ℕ} → then_some good value ≡ o → good ≡ true → Some value ≡ o
some-found good value e g = rw g at e

pub none-found : (good : Bool) (value : ℕ) {o : Option ℕ} → then_some good value ≡ o → good ≡ false → None ≡ o
none-found good value e g = rw g at e

module _ (base : ℕ) (l : List ℕ) (from to : ℕ) where
  pub found-short : length l < to → None ≡ digits_said base l from to
  unfolding digits_said digits_in
  found-short h = passed _ (sym (stop _ (lt-leb _ _ h))) refl

  pub value-short : length l < to → 0 ≡ value_said base l from to
  unfolding value_said
  value-short h = sym (pick-false _ _ (lt-leb _ _ h))

  pub value-whole : {xs : List ℕ} {good : Bool} {value i : ℕ} → to ≤ length l → xs ≡ part l from to → length xs ≤ i → Reading base xs good value i → value ≡ value_said base l from to
  unfolding value_said
  value-whole {xs} {good} {value} {i} h e d r = r.says ∙ ap (λ (y : List ℕ). value_from base 0 y % 2 ^ 32) (take_all i xs d ∙ e) ∙ sym (pick_true _ _ (le-leb _ _ h))

  pub found-whole : {xs : List ℕ} {good : Bool} {value i : ℕ} → to ≤ length l → xs ≡ part l from to → length xs ≤ i → Reading base xs good value i
      → then_some good value ≡ digits_said base l from to
  unfolding digits_said digits_in
  found-whole {xs} {good} {value} {i} h e d r = by_test good (so (le-leb _ _ h) (r.goods ∙ ap (all_digits base) t))
    where
      t : take i xs ≡ part l from to
      t = take_all i xs d ∙ e

      by_test : (g : Bool) → g ≡ both (leb to (length l)) (all_digits base (part l from to)) → then_some g value ≡ digits_said base l from to
      by_test true q = taken _ (sym q) (ap Some (r.says ∙ ap (λ (y : List ℕ). value_from base 0 y % 2 ^ 32) t))
      by_test false q = passed _ (sym q) refl

  pub digits-say : {value : ℕ} → Some value ≡ digits_said base l from to → (digits_in base l from to ≡ true) × (value ≡ value_from base 0 (part l from to) % 2 ^ 32)
  unfolding digits_said
  digits-say f = some_picked _ f

  pub digits-small : {value : ℕ} → Some value ≡ digits_said base l from to → value < 2 ^ 32
  digits-small f = omega (arith, (digits-say f).1)

  pub no-digits : None ≡ digits_said base l from to → digits_in base l from to ≡ false
  unfolding digits_said
  no-digits f = none_picked _ _ f
