-- `fraction` is exact over a power of two, and it is what the float operations give: the raw number over the divisor, less what the offset lies below 0.
use mathlib.Core.Path.{◌≡◌, refl, sym, ap, ◌∙◌, subst}
use mathlib.Core.Bool.{Bool, true, false, cond}
use Prim.Native.Nat.{ℕ, suc, ◌+◌, ◌-◌, ◌*◌, ◌^◌, ◌≤◌, ◌<◌}
use native.Mathlib.Nat.{lt_of_lt_of_le, mul-one, one-mul, zero-mul, mul_assoc, mul_comm, mul_left_comm, mul_right_comm, mul-pos, mul-sub, mul-lt-mul_of_pos_right, lt_of_mul-lt-mul_right, mul-le-mul_right, le_of_mul-le-mul_right}
use native.Mathlib.Omega.{arith}
use borrow.Author.Tests.{lt-ltb, le-ltb, ltb-true, ltb-false, ne_eqb}
use lib.Dec.{ltb, lit<}
use lib.Pow.{pow-add, pow_pos, pow_mono, pow-lt, shl_lt}
use lib.IntN.{ℤ, pos, negsuc, sub_ℕ, nat_abs}
use lib.Ieee.{Float, nan, inf, fin, binary32, up, down, round, neg, sum, add, sub, div, of_int}
use lib.Ieee.Exact.{HasValue, round_exact}
use lib.Ieee.Fits.{up_pos, down_pos}
use lib.Ieee.Scale.{round_same}
use Rattle.readings.specs.Fractions.{fraction, Exact, PowerOfTwo}

-- ---- over a power of two a whole number of 24 digits is not rounded
rest : (k : ℕ) → k ≤ 149 → 149 - k + k ≡ 149
rest k h = omega arith

top : (k : ℕ) → 24 + (149 - k) ≤ 277
top k = omega arith

pub over-power : (s : Bool) (a k : ℕ) → a < 2 ^ 24 → k ≤ 149 → HasValue (round binary32 s a (2 ^ k)) s a (2 ^ k)
over-power s a k A K =
    round_exact binary32 s a (2 ^ k) a (149 - k) (pow_pos k) A (lt_of_lt_of_le (shl_lt 24 (149 - k) A) (pow_mono (top k)))
    (sym (mul_assoc a (2 ^ (149 - k)) (2 ^ k) ∙ ap (λ (x : ℕ). a * x) (sym (pow-add 2 (149 - k) k) ∙ ap (λ (x : ℕ). 2 ^ x) (rest k K))))

pub fraction-exact : (z : ℤ) (k : ℕ) → nat_abs z < 2 ^ 24 → k ≤ 149 → Exact (fraction z (2 ^ k)) z (2 ^ k)
unfolding fraction Exact
fraction-exact (pos n) k h K = over-power false n k h K
fraction-exact (negsuc n) k h K = over-power true (suc n) k h K

pub whole : (n : ℕ) → n < 2 ^ 24 → HasValue (of_int binary32 (pos n)) false n 1
unfolding of_int
whole n h = over-power false n 0 h (omega arith)

-- ---- a quotient of two values is the rounded quotient of the fractions
cross : (x y a b c d e g : ℕ) → x * b ≡ a * e → y * d ≡ c * g → x * g * (b * c) ≡ a * d * (y * e)
cross x y a b c d e g h k =
    let l : x * g * (b * c) ≡ x * b * (c * g) = simp (mul_assoc, mul_comm, mul_left_comm) in
    let r : a * e * (y * d) ≡ a * d * (y * e) = simp (mul_assoc, mul_comm, mul_left_comm) in
    l ∙ ap (λ (z : ℕ). z * (c * g)) h ∙ ap (λ (z : ℕ). a * e * z) (sym k) ∙ r

above : (n x d c g : ℕ) → 0 < c * g → n * x * d ≡ c * g → n ≡ 0 → ⊥
above n x d c g p h z =
    let e : 0 ≡ c * g = sym (ap (λ (m : ℕ). m * x * d) z ∙ ap (λ (m : ℕ). m * d) (zero-mul x) ∙ zero-mul d) ∙ h in
    omega arith

pub quotient : (x y : Float) (a b c d : ℕ) → 0 < b → 0 < c → 0 < d → HasValue x false a b → HasValue y false c d
    → div binary32 x y ≡ round binary32 false (a * d) (b * c)
unfolding div
quotient nan y a b c d B C D h k = absurd h
quotient (inf s) y a b c d B C D h k = absurd h
quotient (fin s m e) nan a b c d B C D h k = absurd k
quotient (fin s m e) (inf t) a b c d B C D h k = absurd k
quotient (fin s m e) (fin t n g) a b c d B C D (p, h) (q, k) =
    let N : n ≡ 0 → ⊥ = above n (up g) d c (down g) (mul-pos C (down_pos g)) k in
    rw (p, q, ne_eqb n 0 N)
    (round_same binary32 false (m * up e * down g) (n * up g * down e) (a * d) (b * c) (mul-pos (mul-pos (some n N) (up_pos g)) (down_pos e)) (mul-pos B C)
    (cross (m * up e) (n * up g) a b c d (down e) (down g) h k))
  where
    some : (n : ℕ) → (n ≡ 0 → ⊥) → 0 < n
    some n h = omega arith

-- ---- a difference of two values is the rounded difference of the fractions
sub-mul : (y x b : ℕ) → (y - x) * b ≡ y * b - x * b
sub-mul y x b = mul_comm (y - x) b ∙ mul-sub b y x ∙ ap (λ (z : ℕ). z - b * x) (mul_comm b y) ∙ ap (λ (z : ℕ). y * b - z) (mul_comm b x)

-- x and y are a / b and o in parts of 1 / c
module _ (x y a b o c : ℕ) (B : 0 < b) (C : 0 < c) (h : x * b ≡ a * c) (k : y ≡ o * c) where
  scaled : y * b ≡ o * b * c
  scaled = ap (λ (z : ℕ). z * b) k ∙ mul_right_comm o c b

  below : a < o * b → x < y
  below l = lt_of_mul-lt-mul_right b (subst (λ (z : ℕ). z < y * b) (sym h) (subst (λ (z : ℕ). a * c < z) (sym scaled) (mul-lt-mul_of_pos_right l C)))

  not-below : o * b ≤ a → y ≤ x
  not-below l = le_of_mul-le-mul_right (subst (λ (z : ℕ). z ≤ x * b) (sym scaled) (subst (λ (z : ℕ). o * b * c ≤ z) (sym h) (mul-le-mul_right c l))) B

  apart : (y - x) * b ≡ (o * b - a) * c
  apart = sub-mul y x b ∙ ap (λ (z : ℕ). z - x * b) scaled ∙ ap (λ (z : ℕ). o * b * c - z) h ∙ sym (sub-mul (o * b) a c)

  apart' : (x - y) * b ≡ (a - o * b) * c
  apart' = sub-mul x y b ∙ ap (λ (z : ℕ). z - y * b) h ∙ ap (λ (z : ℕ). a * c - z) scaled ∙ sym (sub-mul a (o * b) c)

down-one : (a n : ℕ) → a < n → suc (n - suc a) ≡ n - a
down-one a n h = omega arith

sum_is : (x y c : ℕ) → sum binary32 false x true y c ≡ cond (ltb x y) (round binary32 true (y - x) c) (round binary32 false (x - y) c)
unfolding sum
sum_is x y c = refl

sub_is : (m n : ℕ) (e g : ℤ) → sub binary32 (fin false m e) (fin false n g) ≡ sum binary32 false (m * up e * down g) true (n * up g * down e) (down e * down g)
unfolding sub add neg
sub_is m n e g = refl

negative : (n d : ℕ) → fraction (negsuc n) d ≡ round binary32 true (suc n) d
unfolding fraction
negative n d = refl

positive : (n d : ℕ) → fraction (pos n) d ≡ round binary32 false n d
unfolding fraction
positive n d = refl

sum-fraction : (x y a b o c : ℕ) → 0 < b → 0 < c → x * b ≡ a * c → y ≡ o * c → sum binary32 false x true y c ≡ fraction (sub_ℕ a (o * b)) b
sum-fraction x y a b o c B C h k = sum_is x y c ∙ go (ltb a (o * b)) refl
  where
    go : (l : Bool) → ltb a (o * b) ≡ l → cond (ltb x y) (round binary32 true (y - x) c) (round binary32 false (x - y) c) ≡ fraction (sub_ℕ a (o * b)) b
    go true l =
        let L : a < o * b = ltb-true a (o * b) l in
        rw (lt-ltb x y (below x y a b o c B C h k L), l)
        (round_same binary32 true (y - x) c (suc (o * b - suc a)) b C B (apart x y a b o c B C h k ∙ ap (λ (z : ℕ). z * c) (sym (down-one a (o * b) L))) ∙ sym (negative (o * b - suc a) b))
    go false l =
        rw (le-ltb x y (not-below x y a b o c B C h k (ltb-false a (o * b) l)), l)
        (round_same binary32 false (x - y) c (a - o * b) b C B (apart' x y a b o c B C h k) ∙ sym (positive (a - o * b) b))

pub difference : (x y : Float) (a b o : ℕ) → 0 < b → HasValue x false a b → HasValue y false o 1 → sub binary32 x y ≡ fraction (sub_ℕ a (o * b)) b
difference nan y a b o B h k = absurd h
difference (inf s) y a b o B h k = absurd h
difference (fin s m e) nan a b o B h k = absurd k
difference (fin s m e) (inf t) a b o B h k = absurd k
difference (fin s m e) (fin t n g) a b o B (p, h) (q, k) =
    rw (p, q)
    (sub_is m n e g
    ∙ sum-fraction (m * up e * down g) (n * up g * down e) a b o (down e * down g) B (mul-pos (down_pos e) (down_pos g))
    (mul_right_comm (m * up e) (down g) b ∙ ap (λ (z : ℕ). z * down g) h ∙ mul_assoc a (down e) (down g))
    (ap (λ (z : ℕ). z * down e) (sym (mul-one (n * up g)) ∙ k) ∙ mul_assoc o (down g) (down e) ∙ ap (λ (z : ℕ). o * z) (mul_comm (down g) (down e))))

-- ---- the whole: a raw number over a power of two, less a whole number, is the fraction of the whole numbers
pub physical-is : (n d o : ℕ) → n < 2 ^ 24 → PowerOfTwo d → o < 2 ^ 24
    → sub binary32 (div binary32 (of_int binary32 (pos n)) (of_int binary32 (pos d))) (of_int binary32 (pos o)) ≡ fraction (sub_ℕ n (o * d)) d
physical-is n d o N P O =
    difference (div binary32 (of_int binary32 (pos n)) (of_int binary32 (pos d))) (of_int binary32 (pos o)) n d o D over (whole o O)
  where
    D : 0 < d
    D = subst (λ (x : ℕ). 0 < x) (sym P.power) (pow_pos P.exponent)

    small : d < 2 ^ 24
    small = subst (λ (x : ℕ). x < 2 ^ 24) (sym P.power) (pow-lt {i = P.exponent} {j = 24} (omega (arith, P.small)))

    over : HasValue (div binary32 (of_int binary32 (pos n)) (of_int binary32 (pos d))) false n d
    over =
        subst (λ (x : Float). HasValue x false n d)
        (sym (quotient (of_int binary32 (pos n)) (of_int binary32 (pos d)) n 1 d 1 (lit< tt) D (lit< tt) (whole n N) (whole d small)
        ∙ ap (λ (x : ℕ). round binary32 false x (1 * d)) (mul-one n) ∙ ap (λ (x : ℕ). round binary32 false n x) (one-mul d)))
        (subst (λ (x : ℕ). HasValue (round binary32 false n x) false n x) (sym P.power) (over-power false n P.exponent N (omega (arith, P.small))))
