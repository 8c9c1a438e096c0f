-- Laws of pairs of digits: the values of digits from a place on, and the bytes that pairs of them say, one more at a time.
use mathlib.Core.Path.{◌≡◌, refl, sym, ap, ◌∙◌}
use mathlib.Core.Bool.{Bool, true, false, ◌&&◌}
use mathlib.Core.List.{List, [], ◌∷◌, ◌++◌, append_assoc, append-nil}
use Prim.Native.Nat.{ℕ, zero, suc, ◌+◌, ◌-◌, ◌*◌, ◌≤◌, ◌<◌}
use native.Mathlib.Omega.{arith}
use lib.Dec.{ltb}
use lib.ListN.{length, get_or, set, replicate, length-append, get_or-eq_default}
use lib.Seq.{set_at}
use Rattle.identifiers.specs.Choice.{both}
use Rattle.identifiers.proofs.LawsChoice.{and_is, pick_true, pick-false}
use Rattle.text.specs.Digits.{digit_value, is_digit}
use Rattle.text.proofs.LawsValue.{digit-test, worth-none}
use Rattle.logs.specs.Parts.{values_from, pairs_from}
use Rattle.logs.specs.Outcomes.{eight, data_bytes}

-- ---- the values of digits from a place on
pub values_length : (n : ℕ) (l : List ℕ) (at : ℕ) → length (values_from n l at) ≡ n
unfolding values_from
values_length zero l at = refl
values_length (suc n) l at = ap suc (values_length n l (at + 1))

pub values-at : (n : ℕ) (l : List ℕ) (at i : ℕ) → i < n → get_or (values_from n l at) i 0 ≡ digit_value (get_or l (at + i) 0)
unfolding values_from
values-at zero l at i h = absurd (omega arith)
values-at (suc n) l at zero h = let e : at ≡ at + zero = omega arith in ap (λ (k : ℕ). digit_value (get_or l k 0)) e
values-at (suc n) l at (suc i) h = let e : at + 1 + i ≡ at + suc i = omega arith in values-at n l (at + 1) i (omega arith) ∙ ap (λ (k : ℕ). digit_value (get_or l k 0)) e

-- the two digits of a pair
pub pair_values : (l : List ℕ) (from k : ℕ) {values : List ℕ} → values ≡ values_from 16 l from → k < 8
    → (get_or values (2 * k) 0 ≡ digit_value (get_or l (from + 2 * k) 0)) × (get_or values (2 * k + 1) 0 ≡ digit_value (get_or l (from + 2 * k + 1) 0))
pair_values l from k e h =
    let a : from + (2 * k + 1) ≡ from + 2 * k + 1 = omega arith in
    rw e (values-at 16 l from (2 * k) (omega arith), values-at 16 l from (2 * k + 1) (omega arith) ∙ ap (λ (i : ℕ). digit_value (get_or l i 0)) a)

values-append : (m n : ℕ) (l : List ℕ) (at : ℕ) → values_from (m + n) l at ≡ values_from m l at ++ values_from n l (at + m)
unfolding values_from
values-append zero n l at =
    let a : zero + n ≡ n = omega arith in
    let b : at ≡ at + zero = omega arith in
    ap (λ (k : ℕ). values_from k l at) a ∙ ap (values_from n l) b
values-append (suc m) n l at =
    let a : suc m + n ≡ suc (m + n) = omega arith in
    let b : at + 1 + m ≡ at + suc m = omega arith in
    ap (λ (k : ℕ). values_from k l at) a ∙ ap (λ (y : List ℕ). digit_value (get_or l at 0) ∷ y) (values-append m n l (at + 1) ∙ ap (λ (k : ℕ). values_from m l (at + 1) ++ values_from n l k) b)

-- past the end stands no digit
values-past : (n : ℕ) (l : List ℕ) (at : ℕ) → length l ≤ at → values_from n l at ≡ replicate n 16
unfolding values_from
values-past zero l at h = refl
values-past (suc n) l at h =
    let z : digit_value (get_or l at 0) ≡ 16 = ap digit_value (get_or-eq_default l 0 h) ∙ worth-none 0 (omega arith) in
    ap (λ (v : ℕ). v ∷ values_from n l (at + 1)) z ∙ ap (λ (y : List ℕ). 16 ∷ y) (values-past n l (at + 1) (omega arith))

-- a loop that puts them: i of sixteen are put
pub record Valued (l : List ℕ) (from : ℕ) (values : List ℕ) (i : ℕ) : Type 0 where
  pub put : values ≡ values_from i l from ++ replicate (16 - i) 16

pub valued-first : (l : List ℕ) (from : ℕ) → Valued l from (replicate 16 16) 0
unfolding values_from
valued-first l from = record { put = refl }

pub valued-more : {l : List ℕ} {from : ℕ} {values : List ℕ} {i v : ℕ} → Valued l from values i → i < 16 → v ≡ digit_value (get_or l (from + i) 0) → Valued l from (set values i v) (i + 1)
unfolding values_from
valued-more {l} {from} {values} {i} {v} r h e =
    let n : 16 - i ≡ suc (16 - (i + 1)) = omega arith in
    let w : values ≡ values_from i l from ++ (16 ∷ replicate (16 - (i + 1)) 16) = r.put ∙ ap (λ (k : ℕ). values_from i l from ++ replicate k 16) n in
    record {
      put = ap (λ (y : List ℕ). set y i v) w ∙ set_at (values_from i l from) 16 (replicate (16 - (i + 1)) 16) v i (values_length i l from)
          ∙ ap (λ (x : ℕ). values_from i l from ++ (x ∷ replicate (16 - (i + 1)) 16)) e
          ∙ sym (append_assoc (values_from i l from) (digit_value (get_or l (from + i) 0) ∷ []) (replicate (16 - (i + 1)) 16))
          ∙ ap (λ (y : List ℕ). y ++ replicate (16 - (i + 1)) 16) (sym (values-append i 1 l from));
    }

pub valued-done : {l : List ℕ} {from : ℕ} {values : List ℕ} {i : ℕ} → Valued l from values i → i ≤ 16 → (i < 16 → length l ≤ from + i) → values ≡ values_from 16 l from
unfolding values_from
valued-done {l} {from} {values} {i} r m h =
    let e : i + (16 - i) ≡ 16 = omega arith in
    r.put ∙ ap (λ (y : List ℕ). values_from i l from ++ y) (rest (16 - i) refl) ∙ sym (values-append i (16 - i) l from) ∙ ap (λ (k : ℕ). values_from k l from) e
  where
    rest : (k : ℕ) → 16 - i ≡ k → replicate k 16 ≡ values_from k l (from + i)
    rest zero q = refl
    rest (suc k) q = sym (values-past (suc k) l (from + i) (h (omega arith)))

-- ---- the bytes that pairs say
module _ (n : ℕ) (l : List ℕ) (at : ℕ) {high low : ℕ} (h : high ≡ digit_value (get_or l at 0)) (g : low ≡ digit_value (get_or l (at + 1) 0)) where
  tested : {t : Bool} → (ltb high 16 && ltb low 16) ≡ t → both (is_digit 16 (get_or l at 0)) (is_digit 16 (get_or l (at + 1) 0)) ≡ t
  tested e = rw (← digit-test 16 (get_or l at 0) h, ← digit-test 16 (get_or l (at + 1) 0) g) (sym (and_is _ _) ∙ e)

  pub pairs-more : (ltb high 16 && ltb low 16) ≡ true → pairs_from (suc n) l at ≡ (high * 16 + low) ∷ pairs_from n l (at + 2)
  unfolding pairs_from
  pairs-more e = pick_true _ _ (tested e) ∙ rw (h, g)

  pub pairs-stop : (ltb high 16 && ltb low 16) ≡ false → pairs_from (suc n) l at ≡ []
  unfolding pairs_from
  pairs-stop e = pick-false _ _ (tested e)

-- eight turns: k bytes are put, and with those to come they are all
pub record ToCome (l : List ℕ) (from : ℕ) (d : List ℕ) (k : ℕ) : Type 0 where
  pub taken : List ℕ
  pub long : length taken ≡ k
  pub put : d ≡ taken ++ replicate (8 - k) 0
  pub all : pairs_from 8 l from ≡ taken ++ pairs_from (8 - k) l (from + 2 * k)

module _ {l : List ℕ} {from : ℕ} {d : List ℕ} {k : ℕ} (t : ToCome l from d k) where
  to-come-stop : pairs_from (8 - k) l (from + 2 * k) ≡ [] → record { count = k; bytes = d } ≡ data_bytes (pairs_from 8 l from)
  unfolding eight
  to-come-stop e =
      let a : pairs_from 8 l from ≡ t.taken = t.all ∙ ap (λ (y : List ℕ). t.taken ++ y) e ∙ append-nil t.taken in
      let n : k ≡ length (pairs_from 8 l from) = sym (ap length a ∙ t.long) in
      let b : d ≡ eight (pairs_from 8 l from) = t.put ∙ ap (λ (y : List ℕ). y ++ replicate (8 - k) 0) (sym a) ∙ ap (λ (j : ℕ). pairs_from 8 l from ++ replicate (8 - j) 0) n in
      λ i. record { count = n i; bytes = b i }

  pub to-come-full : k ≡ 8 → record { count = 8; bytes = d } ≡ data_bytes (pairs_from 8 l from)
  unfolding pairs_from
  to-come-full h = ap (λ (j : ℕ). record { count = j; bytes = d }) (sym h) ∙ to-come-stop (let z : 8 - k ≡ 0 = omega arith in ap (λ (j : ℕ). pairs_from j l (from + 2 * k)) z)

  module _ (high low : ℕ) (less : k < 8) (h : high ≡ digit_value (get_or l (from + 2 * k) 0)) (g : low ≡ digit_value (get_or l (from + 2 * k + 1) 0)) where
    left : 8 - k ≡ suc (8 - (k + 1))
    left = omega arith

    pub to-come-more : (ltb high 16 && ltb low 16) ≡ true → ToCome l from (set d k (high * 16 + low)) (k + 1)
    to-come-more e =
        let s : pairs_from (8 - k) l (from + 2 * k) ≡ (high * 16 + low) ∷ pairs_from (8 - (k + 1)) l (from + 2 * k + 2) =
        ap (λ (m : ℕ). pairs_from m l (from + 2 * k)) left ∙ pairs-more (8 - (k + 1)) l (from + 2 * k) h g e in
        let p : from + 2 * k + 2 ≡ from + 2 * (k + 1) = omega arith in
        let w : d ≡ t.taken ++ (0 ∷ replicate (8 - (k + 1)) 0) = t.put ∙ ap (λ (m : ℕ). t.taken ++ replicate m 0) left in
        record {
          taken = t.taken ++ ((high * 16 + low) ∷ []);
          long = omega (arith, length-append t.taken ((high * 16 + low) ∷ []), t.long);
          put = ap (λ (y : List ℕ). set y k (high * 16 + low)) w ∙ set_at t.taken 0 (replicate (8 - (k + 1)) 0) (high * 16 + low) k t.long
              ∙ sym (append_assoc t.taken ((high * 16 + low) ∷ []) (replicate (8 - (k + 1)) 0));
          all = t.all ∙ ap (λ (y : List ℕ). t.taken ++ y) (s ∙ ap (λ (m : ℕ). (high * 16 + low) ∷ pairs_from (8 - (k + 1)) l m) p)
              ∙ sym (append_assoc t.taken ((high * 16 + low) ∷ []) (pairs_from (8 - (k + 1)) l (from + 2 * (k + 1))));
        }

    pub to-come-end : (ltb high 16 && ltb low 16) ≡ false → record { count = k; bytes = d } ≡ data_bytes (pairs_from 8 l from)
    to-come-end e = to-come-stop (ap (λ (m : ℕ). pairs_from m l (from + 2 * k)) left ∙ pairs-stop (8 - (k + 1)) l (from + 2 * k) h g e)
