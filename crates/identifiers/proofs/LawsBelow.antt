-- Laws of what is said of every index below a number: none yet, one more, what the whole says of each, and what the first is. One loop law for all loops.
use mathlib.Core.Path.{◌≡◌, refl, sym, ap, ◌∙◌}
use mathlib.Core.Bool.{Bool, true, false, false≢true, ◌&&◌}
use mathlib.Core.List.{List, [], ◌++◌, append-nil}
use mathlib.Core.Logic.{⊎_elim}
use Prim.Native.Nat.{ℕ, zero, suc, ◌+◌, ◌<◌, ◌≤◌}
use native.Mathlib.Nat.{eq-or-lt_of_le}
use native.Mathlib.Numerals.{add-one}
use native.Mathlib.Omega.{arith}
use borrow.Author.Tests.{ltb-true, ltb-false, le-ltb, lt-ltb}
use lib.Dec.{ltb}
use lib.ListN.{length, length-append}
use Rattle.identifiers.specs.Choice.{pick, both}
use Rattle.identifiers.specs.Below.{all_below, count_below, list_below, first_below}
use Rattle.identifiers.proofs.LawsChoice.{both_false, both-swap, both_true, and_is}

-- ---- all_below
pub all_none : (p : ℕ → Bool) → all_below p 0 ≡ true
unfolding all_below
all_none p = refl

pub all-suc : (p : ℕ → Bool) (n : ℕ) → all_below p (suc n) ≡ both (all_below p n) (p n)
unfolding all_below
all-suc p n = refl

pub all_more : (p : ℕ → Bool) (n : ℕ) → all_below p n ≡ true → p n ≡ true → all_below p (n + 1) ≡ true
unfolding all_below both
all_more p n h e = rw (add-one n, h, e)

pub all-fails : (p : ℕ → Bool) (i n : ℕ) → i < n → p i ≡ false → all_below p n ≡ false
unfolding all_below both
all-fails p i zero h e = absurd (omega arith)
all-fails p i (suc n) h e =
    ⊎_elim (λ (q : i ≡ n). rw (ap p (sym q) ∙ e) (both_false (all_below p n))) (λ (q : i < n). rw (all-fails p i n q e)) (eq-or-lt_of_le (omega arith))

-- where not all hold, one does not
pub all-not : (p : ℕ → Bool) (n : ℕ) → all_below p n ≡ false → (i : ℕ) × ((i < n) × (p i ≡ false))
unfolding all_below both
all-not p zero h = absurd (false≢true (sym h))
all-not p (suc n) h = by (all_below p n) refl h (all-not p n)
  where
    by : (b : Bool) → all_below p n ≡ b → both b (p n) ≡ false → (all_below p n ≡ false → (i : ℕ) × ((i < n) × (p i ≡ false))) → (i : ℕ) × ((i < suc n) × (p i ≡ false))
    by true e g x = (n, (omega arith, g))
    by false e g x = let y = x e in (y.0, (omega (arith, y.1.0), y.1.1))

pub all-at : (p : ℕ → Bool) (i n : ℕ) → all_below p n ≡ true → i < n → p i ≡ true
unfolding all_below
all-at p i zero h l = absurd (omega arith)
all-at p i (suc n) h l =
    let e = both_true (all_below p n) (p n) h in
    ⊎_elim (λ (q : i ≡ n). ap p q ∙ e.1) (λ (q : i < n). all-at p i n e.0 q) (eq-or-lt_of_le (omega arith))

-- a loop that asks a test of each, `sound = sound & p(n)`
pub all-turn : (p : ℕ → Bool) (n : ℕ) {sound : Bool} → sound ≡ all_below p n → (sound && p n) ≡ all_below p (n + 1)
unfolding all_below
all-turn p n {sound} h = and_is sound (p n) ∙ rw (h, add-one n)

pub all-each : (p : ℕ → Bool) (n : ℕ) → ((i : ℕ) → i < n → p i ≡ true) → all_below p n ≡ true
unfolding all_below both
all-each p zero h = refl
all-each p (suc n) h = rw (all-each p n (λ i l. h i (omega arith)), h n (omega arith))

-- a row of tests is two rows, one behind the other
-- two tests that agree at each index
pub all_same : (p q : ℕ → Bool) (n : ℕ) → ((i : ℕ) → i < n → p i ≡ q i) → all_below p n ≡ all_below q n
unfolding all_below
all_same p q zero h = refl
all_same p q (suc n) h = rw (all_same p q n (λ i l. h i (omega arith)), h n (omega arith))

pub all_both : (p q : ℕ → Bool) (n : ℕ) → both (all_below p n) (all_below q n) ≡ all_below (λ i. both (p i) (q i)) n
unfolding all_below both
all_both p q zero = refl
all_both p q (suc n) = both-swap (all_below p n) (p n) (all_below q n) (q n) ∙ ap (λ (b : Bool). both b (both (p n) (q n))) (all_both p q n)

-- ---- count_below
pub count_none : (p : ℕ → Bool) → count_below p 0 ≡ 0
unfolding count_below
count_none p = refl

pub count-suc : (p : ℕ → Bool) (n : ℕ) → count_below p (suc n) ≡ pick (p n) (count_below p n + 1) (count_below p n)
unfolding count_below
count-suc p n = refl

pub count-hit : (p : ℕ → Bool) (n : ℕ) → p n ≡ true → count_below p (n + 1) ≡ count_below p n + 1
unfolding count_below pick
count-hit p n e = rw (add-one n, e)

pub count-miss : (p : ℕ → Bool) (n : ℕ) → p n ≡ false → count_below p (n + 1) ≡ count_below p n
unfolding count_below pick
count-miss p n e = rw (add-one n, e)

pub count-each : (p q : ℕ → Bool) (n : ℕ) → ((i : ℕ) → i < n → p i ≡ q i) → count_below p n ≡ count_below q n
unfolding count_below
count-each p q zero h = refl
count-each p q (suc n) h = rw (count-each p q n (λ i l. h i (omega arith)), h n (omega arith))

pub count-all : (p : ℕ → Bool) (n : ℕ) → ((i : ℕ) → i < n → p i ≡ true) → count_below p n ≡ n
unfolding count_below pick
count-all p zero h = refl
count-all p (suc n) h = rw (count-all p n (λ i l. h i (omega arith)), h n (omega arith)) (add-one n)

one_more : (b : Bool) (x n : ℕ) → x ≤ n → pick b (x + 1) x ≤ suc n
unfolding pick
one_more true x n h = omega arith
one_more false x n h = omega arith

pub count-le : (p : ℕ → Bool) (n : ℕ) → count_below p n ≤ n
unfolding count_below
count-le p zero = omega arith
count-le p (suc n) = one_more (p n) (count_below p n) n (count-le p n)

-- ---- list_below
pub list-none : (f : ℕ → List ℕ) → list_below f 0 ≡ []
unfolding list_below
list-none f = refl

pub list-suc : (f : ℕ → List ℕ) (n : ℕ) → list_below f (suc n) ≡ list_below f n ++ f n
unfolding list_below
list-suc f n = refl

pub list-more : (f : ℕ → List ℕ) (n : ℕ) → list_below f (n + 1) ≡ list_below f n ++ f n
unfolding list_below
list-more f n = rw add-one

pub list_same : (f : ℕ → List ℕ) (n : ℕ) → f n ≡ [] → list_below f (n + 1) ≡ list_below f n
list_same f n e = list-more f n ∙ ap (λ (l : List ℕ). list_below f n ++ l) e ∙ append-nil (list_below f n)

pub length_more : (f : ℕ → List ℕ) (n : ℕ) → length (list_below f (n + 1)) ≡ length (list_below f n) + length (f n)
length_more f n = ap length (list-more f n) ∙ length-append (list_below f n) (f n)

pub length-mono : (f : ℕ → List ℕ) (m n : ℕ) → m ≤ n → length (list_below f m) ≤ length (list_below f n)
length-mono f m zero h = let e : m ≡ zero = omega arith in rw e (omega arith)
length-mono f m (suc n) h =
    ⊎_elim (λ (q : m ≡ suc n). rw q (omega arith))
    (λ (q : m < suc n). omega (arith, length-mono f m n (omega arith), length_more f n, ap (λ (k : ℕ). length (list_below f k)) (add-one n))) (eq-or-lt_of_le h)

pub list-each : (f g : ℕ → List ℕ) (n : ℕ) → ((i : ℕ) → i < n → f i ≡ g i) → list_below f n ≡ list_below g n
unfolding list_below
list-each f g zero h = refl
list-each f g (suc n) h = rw (list-each f g n (λ i l. h i (omega arith)), h n (omega arith))

-- ---- first_below
pub first-none : (p : ℕ → Bool) → first_below p 0 ≡ 0
unfolding first_below
first-none p = refl

pub first-miss : (p : ℕ → Bool) (n : ℕ) → first_below p n ≡ n → p n ≡ false → first_below p (n + 1) ≡ n + 1
unfolding first_below pick
first-miss p n h e = rw (add-one n, h, le-ltb n n (omega arith), e)

pub first-hit : (p : ℕ → Bool) (i n : ℕ) → first_below p i ≡ i → p i ≡ true → i < n → first_below p n ≡ i
unfolding first_below pick
first-hit p i zero h e l = absurd (omega arith)
first-hit p i (suc n) h e l =
    ⊎_elim (λ (q : i ≡ n). rw (sym (ap (first_below p) q) ∙ h ∙ q, le-ltb n n (omega arith), sym (ap p q) ∙ e) (sym q))
    (λ (q : i < n). rw (first-hit p i n h e q, lt-ltb i n q)) (eq-or-lt_of_le (omega arith))

-- what is found: a place below n that has p, or n where none below n has it
pub record First (p : ℕ → Bool) (n found : ℕ) : Type 0 where
  pub le : found ≤ n
  pub at : found < n → p found ≡ true
  pub absent : found ≡ n → (i : ℕ) → i < n → p i ≡ false

first_step : (p : ℕ → Bool) (n f : ℕ) (t b : Bool) → ltb f n ≡ t → p n ≡ b → First p n f → First p (suc n) (pick t f (pick b n (suc n)))
unfolding pick
first_step p n f true b e d h = record { le = omega arith; at = λ l. h.at (ltb-true _ _ e); absent = λ q. absurd (omega (arith, ltb-true)) }
first_step p n f false true e d h = record { le = omega arith; at = λ l. d; absent = λ q. absurd (omega arith) }
first_step p n f false false e d h =
    let q : f ≡ n = omega (arith, ltb-false) in
    record { le = omega arith; at = λ l. absurd (omega arith); absent = λ z i l. ⊎_elim (λ (r : i ≡ n). ap p r ∙ d) (λ (r : i < n). h.absent q i r) (eq-or-lt_of_le (omega arith)) }

pub first_found : (p : ℕ → Bool) (n : ℕ) → First p n (first_below p n)
unfolding first_below
first_found p zero = record { le = omega arith; at = λ l. absurd (omega arith); absent = λ q i l. absurd (omega arith) }
first_found p (suc n) = first_step p n (first_below p n) (ltb (first_below p n) n) (p n) refl refl (first_found p n)
