-- Laws of runs and parts: where a run ends, byte after byte; the bytes between two places; every byte of a run has what it is a run of.
use mathlib.Core.Path.{◌≡◌, refl, sym, ap, ◌∙◌}
use mathlib.Core.Bool.{Bool, true, false}
use mathlib.Core.List.{List, [], ◌∷◌, ◌++◌}
use Prim.Native.Nat.{ℕ, zero, suc, ◌+◌, ◌-◌, ◌≤◌, ◌<◌}
use native.Mathlib.Numerals.{add-one}
use native.Mathlib.Omega.{arith}
use borrow.Author.Tests.{ltb-true, ltb-false}
use lib.Dec.{ltb}
use lib.ListN.{length, get_or, take, drop, length-drop, drop_of_length-le, take-append-drop, get_or-eq_default}
use lib.Seq.{drop-cons, drop-drop, take-suc, take-nil, slice_empty, drop-append-le, length-take-le, drop-append_seam, take-append_seam, get_or-append_seam, get_or-drop}
use Rattle.identifiers.specs.Choice.{pick, both}
use Rattle.identifiers.proofs.LawsChoice.{both_true}
use Rattle.text.specs.Digits.{is_digit}
use Rattle.text.specs.Reading.{all_digits}
use Rattle.text.proofs.LawsReading.{digits-none, digits-first}
use Rattle.std.specs.Prelude.{cond}
use Rattle.std.specs.List.{prefix_len, slice_range}
use Rattle.logs.specs.Grammar.{Each}
use Rattle.logs.specs.Grammar.Each.{none, one}
use Rattle.logs.specs.Parts.{run_length, end_of, part}

-- ---- where a run ends
pub run-le : (p : ℕ → Bool) (l : List ℕ) → run_length p l ≤ length l
unfolding run_length pick
run-le p [] = omega arith
run-le p (b ∷ bs) = by_byte (p b) (run-le p bs)
  where
    by_byte : (t : Bool) → run_length p bs ≤ length bs → pick t (suc (run_length p bs)) 0 ≤ suc (length bs)
    by_byte true h = omega arith
    by_byte false h = omega arith

-- a run as std counts it
pub run-prefix : (p : ℕ → Bool) (l : List ℕ) → prefix_len p l ≡ run_length p l
unfolding run_length pick
run-prefix p [] = refl
run-prefix p (b ∷ bs) = by_byte (p b) (run-prefix p bs)
  where
    by_byte : (t : Bool) → prefix_len p bs ≡ run_length p bs → cond t (1 + prefix_len p bs) 0 ≡ pick t (suc (run_length p bs)) 0
    by_byte true h = omega arith
    by_byte false h = refl

module _ (p : ℕ → Bool) (l : List ℕ) where
  pub end-past : (i : ℕ) → length l ≤ i → end_of p l i ≡ i
  unfolding end_of run_length
  end-past i h = rw (drop_of_length-le l h) (omega arith)

  pub end_more : (i : ℕ) → i < length l → p (get_or l i 0) ≡ true → end_of p l (i + 1) ≡ end_of p l i
  unfolding end_of run_length pick
  end_more i h e = rw (drop-cons l i 0 h, e, add-one) (omega arith)

  pub end-stop : (i : ℕ) → i < length l → p (get_or l i 0) ≡ false → end_of p l i ≡ i
  unfolding end_of run_length pick
  end-stop i h e = rw (drop-cons l i 0 h, e) (omega arith)

  pub end-near : (from m : ℕ) → from ≤ m → length l ≤ m → end_of p l from ≤ m
  unfolding end_of
  end-near from m a b = by_place (ltb from (length l)) refl
    where
      by_place : (t : Bool) → ltb from (length l) ≡ t → from + run_length p (drop from l) ≤ m
      by_place true q = let h : from < length l = ltb-true _ _ q in omega (arith, run-le p (drop from l), length-drop from l)
      by_place false q =
          let h : length l ≤ from = ltb-false _ _ q in
          let z : length (drop from l) ≡ 0 = ap length (drop_of_length-le l h) in
          omega (arith, run-le p (drop from l))

-- ---- parts
pub part_none : (l : List ℕ) (i : ℕ) → part l i i ≡ []
unfolding part
part_none l i = slice_empty i l

pub part-more : (l : List ℕ) (from i : ℕ) → from ≤ i → i < length l → part l from (i + 1) ≡ part l from i ++ (get_or l i 0 ∷ [])
unfolding part
part-more l from i a b =
    let f : from ≤ length (take i l) = rw (length-take-le i l (omega arith)) a in
    rw (add-one, take-suc l i 0 b) (drop-append-le from (take i l) (get_or l i 0 ∷ []) f)

-- a part by its start and its length
pub part-is : (from n : ℕ) (l : List ℕ) → part l from (from + n) ≡ take n (drop from l)
unfolding part
part-is zero n l = let e : zero + n ≡ n = omega arith in ap (λ (k : ℕ). take k l) e
part-is (suc from) n [] = ap (λ (l : List ℕ). drop (suc from) l) (take-nil (suc from + n)) ∙ sym (take-nil n)
part-is (suc from) n (x ∷ xs) = let e : suc from + n ≡ suc (from + n) = omega arith in ap (λ (k : ℕ). drop (suc from) (take k (x ∷ xs))) e ∙ part-is from n xs

pub part-between : (l : List ℕ) {from to : ℕ} → from ≤ to → part l from to ≡ take (to - from) (drop from l)
part-between l {from} {to} h = let e : to ≡ from + (to - from) = omega arith in ap (part l from) e ∙ part-is from (to - from) l

pub slice-part : (l : List ℕ) {from to : ℕ} → from ≤ to → slice_range l from to ≡ part l from to
slice-part l h = sym (part-between l h)

-- the bytes from a place on are a part, and what stands behind it
pub cut-part : (l : List ℕ) (from n : ℕ) → drop from l ≡ part l from (from + n) ++ drop (from + n) l
cut-part l from n =
    sym (ap (λ (y : List ℕ). y ++ drop (from + n) l) (part-is from n l)
    ∙ ap (λ (y : List ℕ). take n (drop from l) ++ y) (sym (drop-drop n from l))
    ∙ take-append-drop n (drop from l))

pub part_length : (l : List ℕ) (from n : ℕ) → from + n ≤ length l → length (part l from (from + n)) ≡ n
part_length l from n h = ap length (part-is from n l) ∙ length-take-le n (drop from l) (omega (arith, length-drop from l))

-- ---- a byte that stands in a text
pub stands : (l : List ℕ) (i : ℕ) {b : ℕ} → get_or l i 0 ≡ b → 0 < b → i < length l
stands l i {b} e h = by_place (ltb i (length l)) refl
  where
    by_place : (t : Bool) → ltb i (length l) ≡ t → i < length l
    by_place true q = ltb-true _ _ q
    by_place false q = absurd (omega (arith, get_or-eq_default l 0 (ltb-false _ _ q)))

pub cut-byte : (l : List ℕ) (i : ℕ) {b : ℕ} → get_or l i 0 ≡ b → 0 < b → drop i l ≡ b ∷ drop (i + 1) l
cut-byte l i {b} e h = drop-cons l i 0 (stands l i e h) ∙ rw (e, add-one)

-- the bytes up to a place, and those from there on; the same with the byte that stands there
pub cut-to : (l : List ℕ) {from to : ℕ} → from ≤ to → drop from l ≡ part l from to ++ drop to l
cut-to l {from} {to} h = let e : from + (to - from) ≡ to = omega arith in rw e at (cut-part l from (to - from))

pub cut-both : (l : List ℕ) {from to b : ℕ} {rest : List ℕ} → from ≤ to → get_or l to 0 ≡ b → 0 < b → drop (to + 1) l ≡ rest → drop from l ≡ part l from to ++ (b ∷ rest)
cut-both l {from} {to} {b} h e p r = cut-to l h ∙ ap (λ (y : List ℕ). part l from to ++ y) (cut-byte l to e p ∙ ap (λ (y : List ℕ). b ∷ y) r)

pub length-between : (l : List ℕ) {from to : ℕ} → from ≤ to → to ≤ length l → from + length (part l from to) ≡ to
length-between l {from} {to} h m =
    let e : from + (to - from) ≡ to = omega arith in
    let n : length (part l from (from + (to - from))) ≡ to - from = part_length l from (to - from) (omega arith) in
    let k : length (part l from to) ≡ to - from = rw e at n in
    omega arith

-- ---- every byte of a run has what it is a run of
pub run-each : (p : ℕ → Bool) (l : List ℕ) → Each p (take (run_length p l) l)
unfolding run_length pick
run-each p [] = none
run-each p (b ∷ bs) = by_byte (p b) refl (run-each p bs)
  where
    by_byte : (t : Bool) → p b ≡ t → Each p (take (run_length p bs) bs) → Each p (take (pick t (suc (run_length p bs)) 0) (b ∷ bs))
    by_byte true e h = one e h
    by_byte false e h = none

pub part-each : (p : ℕ → Bool) (l : List ℕ) (from : ℕ) → Each p (part l from (end_of p l from))
unfolding end_of
part-each p l from = rw (part-is from (run_length p (drop from l)) l) (run-each p (drop from l))

pub part-run-length : (p : ℕ → Bool) (l : List ℕ) (from : ℕ) → from + length (part l from (end_of p l from)) ≡ end_of p l from
unfolding end_of
part-run-length p l from = rw (part-is from (run_length p (drop from l)) l, length-take-le (run_length p (drop from l)) (drop from l) (run-le p (drop from l)))

-- and a run is as long as the bytes in front of one that does not have it
pub run_of : (p : ℕ → Bool) (xs : List ℕ) (b : ℕ) (rest : List ℕ) → Each p xs → p b ≡ false → run_length p (xs ++ (b ∷ rest)) ≡ length xs
unfolding run_length pick
run_of p [] b rest none e = rw e
run_of p (x ∷ xs) b rest (one h hs) e = rw h (ap suc (run_of p xs b rest hs e))

pub run-all : (p : ℕ → Bool) (xs : List ℕ) → Each p xs → run_length p xs ≡ length xs
unfolding run_length pick
run-all p [] none = refl
run-all p (x ∷ xs) (one h hs) = rw h (ap suc (run-all p xs hs))

-- the byte that ends a run inside a text does not have it
pub run-stopped : (p : ℕ → Bool) (l : List ℕ) → run_length p l < length l → p (get_or l (run_length p l) 0) ≡ false
unfolding run_length pick
run-stopped p [] h = absurd (omega arith)
run-stopped p (b ∷ bs) h = by_byte (p b) refl h (run-stopped p bs)
  where
    by_byte : (t : Bool) → p b ≡ t → pick t (suc (run_length p bs)) 0 < suc (length bs) → (run_length p bs < length bs → p (get_or bs (run_length p bs) 0) ≡ false)
        → p (get_or (b ∷ bs) (pick t (suc (run_length p bs)) 0) 0) ≡ false
    by_byte true e h f = f (omega arith)
    by_byte false e h f = e

-- ---- every byte
pub each_at : (p : ℕ → Bool) (xs : List ℕ) (i : ℕ) → Each p xs → i < length xs → p (get_or xs i 0) ≡ true
each_at p [] i none h = absurd (omega arith)
each_at p (x ∷ xs) zero (one e es) h = e
each_at p (x ∷ xs) (suc i) (one e es) h = each_at p xs i es (omega arith)

pub each_append : {p : ℕ → Bool} (xs ys : List ℕ) → Each p xs → Each p ys → Each p (xs ++ ys)
each_append [] ys none h = h
each_append (x ∷ xs) ys (one e es) h = one e (each_append xs ys es h)

-- what every byte of a text has, it has by what else each has
pub each-so : {p q : ℕ → Bool} → ((b : ℕ) → p b ≡ true → q b ≡ true) → (xs : List ℕ) → Each p xs → Each q xs
each-so f [] none = none
each-so f (x ∷ xs) (one e es) = one (f x e) (each-so f xs es)

-- digits of a base, one by one
pub digits-each : (base : ℕ) (xs : List ℕ) → all_digits base xs ≡ true → Each (is_digit base) xs
digits-each base [] h = none
digits-each base (b ∷ xs) h = let t = both_true _ _ (sym (digits-first base b xs) ∙ h) in one t.0 (digits-each base xs t.1)

pub each-digits : (base : ℕ) (xs : List ℕ) → Each (is_digit base) xs → all_digits base xs ≡ true
unfolding both
each-digits base [] none = digits-none base
each-digits base (b ∷ xs) (one e es) = digits-first base b xs ∙ rw e (each-digits base xs es)

-- ---- bytes in a row, and the byte behind them
pub record Laid (l : List ℕ) (from : ℕ) (xs : List ℕ) (b : ℕ) (rest : List ℕ) : Type 0 where
  pub byte : get_or l (from + length xs) 0 ≡ b
  pub behind : drop (from + length xs + 1) l ≡ rest
  pub parts : part l from (from + length xs) ≡ xs

pub laid : (l : List ℕ) (from : ℕ) (xs : List ℕ) (b : ℕ) (rest : List ℕ) → drop from l ≡ xs ++ (b ∷ rest) → Laid l from xs b rest
laid l from xs b rest e =
    let at : drop (from + length xs) l ≡ b ∷ rest = sym (drop-drop (length xs) from l) ∙ ap (drop (length xs)) e ∙ drop-append_seam xs (b ∷ rest) in
    record {
      byte = sym (get_or-drop from l (length xs) 0) ∙ ap (λ (y : List ℕ). get_or y (length xs) 0) e ∙ get_or-append_seam xs b rest 0;
      behind = sym (drop-drop 1 (from + length xs) l) ∙ ap (drop 1) at;
      parts = part-is from (length xs) l ∙ ap (take (length xs)) e ∙ take-append_seam xs (b ∷ rest);
    }

pub run_ends : (p : ℕ → Bool) (l : List ℕ) (from : ℕ) (xs : List ℕ) (b : ℕ) (rest : List ℕ) → drop from l ≡ xs ++ (b ∷ rest) → Each p xs → p b ≡ false
    → end_of p l from ≡ from + length xs
unfolding end_of
run_ends p l from xs b rest e h stop = ap (λ (k : ℕ). from + k) (ap (run_length p) e ∙ run_of p xs b rest h stop)
