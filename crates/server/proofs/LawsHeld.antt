-- Laws of the part that is held, the first n of a list: what the library says of the part is what the definitions say of its places.
use mathlib.Core.Path.{◌≡◌, refl, sym, ap, ◌∙◌}
use mathlib.Core.Bool.{Bool, true, false, not, ◌&&◌}
use mathlib.Core.Logic.{⊎_elim}
use mathlib.Core.List.{List}
use Prim.Native.Nat.{ℕ, zero, suc, ◌+◌, ◌<◌, ◌≤◌}
use native.Mathlib.Nat.{eq-or-lt_of_le}
use native.Mathlib.Numerals.{add-one}
use native.Mathlib.Omega.{arith}
use lib.Bits.{bit_or}
use lib.Dec.{eqb, ltb, leb}
use lib.ListN.{get_or, length, take}
use Rattle.std.specs.Prelude.{fold, position, cond, Some, None}
use Rattle.std.specs.Ordering.{nat_cmp, is_lt}
use Rattle.std.specs.declared.cmp.Ordering.TheVariants.{Less, Equal, Greater}
use Rattle.std.specs.List.{list_all, list_any, position_or_len, IsAllAdjacentAnswer}
use Rattle.std.proofs.lemmas.List.{get_or-take, length-take, length-take-le}
use Rattle.std.proofs.lemmas.List.Folds.{list_all_more, list_any_more}
use Rattle.std.proofs.lemmas.List.Sums.{fold_more, fails_before_first, passes_at_first, prefix_len-le-length}
use Rattle.identifiers.specs.Below.{all_below, count_below, first_below}
use Rattle.identifiers.proofs.LawsChoice.{and_is}
use Rattle.identifiers.proofs.LawsBelow.{all_same, all-turn, all_none, all-each, all-fails, count-each, first-none, first-miss, first-hit}
use Rattle.server.specs.Places.{place_among, held_among}
use Rattle.server.specs.Trailer.{ascending, status_within, length_within}
use Rattle.server.proofs.LawsPlaces.{held_none, held-turn}
use Rattle.server.proofs.LawsTrailer.{none_within, both-within}

-- the first that has p, by what is known of each before it
first-pass : (p : ℕ → Bool) (k : ℕ) → ((i : ℕ) → i < k → p i ≡ false) → first_below p k ≡ k
first-pass p zero h = first-none p
first-pass p (suc k) h = rw (sym (add-one k)) (first-miss p k (first-pass p k (λ i l. h i (omega arith))) (h k (omega arith)))

first-is : (p : ℕ → Bool) (n k : ℕ) → k ≤ n → ((i : ℕ) → i < k → p i ≡ false) → (k < n → p k ≡ true) → first_below p n ≡ k
first-is p n k l before at = ⊎_elim (λ (q : k ≡ n). ap (first_below p) (sym q) ∙ first-pass p k before) (λ (q : k < n). first-hit p k n (first-pass p k before) (at q) q) (eq-or-lt_of_le l)

-- `<` of two numbers, and of each two that stand side by side
less : (x y : ℕ) → is_lt (nat_cmp x y) ≡ ltb x y
less x y = by (ltb x y) (eqb x y)
  where
    by : (a b : Bool) → is_lt (cond a Less (cond b Equal Greater)) ≡ a
    by true b = refl
    by false true = refl
    by false false = refl

pub sorted-ascending : (xs : List ℕ) (r : Bool) → IsAllAdjacentAnswer (λ x y b. b ≡ is_lt (nat_cmp x y)) xs r → r ≡ ascending xs (length xs)
unfolding ascending
sorted-ascending xs true h = sym (all-each _ _ (λ i l. sym (h i 0 (omega arith) ∙ less _ _)))
sorted-ascending xs false h = sym (all-fails _ h.0 _ (omega (arith, h.1)) (sym (h.2 0 ∙ less _ _)))

-- what is found, and what is not
found : (b : Bool) (m k : ℕ) → cond b (Some m) None ≡ Some k → (b ≡ true) × (m ≡ k)
found true m k e = (refl, cc)
found false m k e = cc

found_none : (b : Bool) (m : ℕ) → cond b (Some m) None ≡ None → b ≡ false
found_none true m e = cc
found_none false m e = refl

module _ (l : List ℕ) where
  pub held-ascends : (n : ℕ) → n ≤ length l → ascending (take n l) n ≡ ascending l n
  unfolding ascending
  held-ascends n h = all_same _ _ _ (λ i m. rw (get_or-take n l i 0 (omega arith), get_or-take n l (i + 1) 0 (omega arith)))

  held-place : (x n : ℕ) → n ≤ length l → position_or_len (λ y. eqb y x) (take n l) ≡ place_among l n x
  unfolding place_among
  held-place x n h =
      let part = take n l in
      let long : length part ≡ n = length-take-le n l h in
      let k : ℕ = position_or_len (λ y. eqb y x) part in
      let within : k ≤ n = omega (arith, prefix_len-le-length (λ y. not (eqb y x)) part) in
      sym (first-is _ n k within
      (λ i m. sym (ap (λ y. eqb y x) (get_or-take n l i 0 (omega arith))) ∙ fails_before_first (λ y. eqb y x) part i 0 m)
      (λ m. sym (ap (λ y. eqb y x) (get_or-take n l k 0 m)) ∙ passes_at_first (λ y. eqb y x) part 0 (omega arith)))

  held-position : (x n : ℕ) → n ≤ length l → position (λ y. eqb y x) (take n l) ≡ cond (held_among l n x) (Some (place_among l n x)) None
  unfolding held_among
  held-position x n h = rw (held-place x n h, length-take-le n l h)

  pub place-found : (x n : ℕ) {k : ℕ} → n ≤ length l → Some k ≡ position (λ y. eqb y x) (take n l) → (held_among l n x ≡ true) × (place_among l n x ≡ k)
  place-found x n h e = found _ _ _ (sym (held-position x n h) ∙ sym e)

  pub place-none : (x n : ℕ) → n ≤ length l → None ≡ position (λ y. eqb y x) (take n l) → held_among l n x ≡ false
  place-none x n h e = found_none _ _ (sym (held-position x n h) ∙ sym e)

  pub held-all : (p : ℕ → Bool) (n : ℕ) → n ≤ length l → list_all p (take n l) ≡ all_below (λ i. p (get_or l i 0)) n
  held-all p zero h = sym (all_none _)
  held-all p (suc n) h = rw (sym (add-one n)) (list_all_more p l n 0 (omega arith) ∙ all-turn (λ i. p (get_or l i 0)) n (held-all p n (omega arith)))

  pub held-lengths : (n : ℕ) → n ≤ length l → list_all (λ m. leb 1 m && leb m 32) (take n l) ≡ all_below (λ k. length_within (get_or l k 0)) n
  unfolding length_within
  held-lengths n h = held-all _ n h ∙ all_same _ _ n (λ i m. and_is _ _)

  pub held-codes : (n : ℕ) → n ≤ length l → all_below (λ i. ltb (get_or (take n l) i 0) 0xFFFFFF) n ≡ all_below (λ i. ltb (get_or l i 0) 0xFFFFFF) n
  held-codes n h = all_same _ _ n (λ i m. ap (λ (k : ℕ). ltb k 0xFFFFFF) (get_or-take n l i 0 m))

  pub held-count : (p : ℕ → Bool) (n : ℕ) → n ≤ length l → count_below (λ i. p (get_or (take n l) i 0)) n ≡ count_below (λ i. p (get_or l i 0)) n
  held-count p n h = count-each _ _ n (λ i m. ap p (get_or-take n l i 0 m))

  -- of a part that is as long as it is said, the list is at least as long
  pub whole : (n : ℕ) → length (take n l) ≡ n → n ≤ length l
  whole n e = omega (arith, length-take n l)

  pub held-any : (x n : ℕ) → n ≤ length l → list_any (λ y. eqb y x) (take n l) ≡ held_among l n x
  held-any x zero h = sym (held_none l x)
  held-any x (suc n) h = rw (sym (add-one n)) (list_any_more (λ y. eqb y x) l n 0 (omega arith) ∙ held-turn l n x (held-any x n (omega arith)))

  pub held-bits : (availability n : ℕ) → n ≤ length l → status_within availability (fold bit_or 0 (take n l)) ≡ all_below (λ i. status_within availability (get_or l i 0)) n
  held-bits availability zero h = none_within availability ∙ sym (all_none _)
  held-bits availability (suc n) h =
      rw (sym (add-one n))
      (ap (status_within availability) (fold_more bit_or 0 l n 0 (omega arith)) ∙ both-within availability _ _ ∙ all-turn (λ i. status_within availability (get_or l i 0)) n (held-bits availability n (omega arith)))

-- what stands at a place of the part stands there in the list
pub held-same : (l : List ℕ) {part : List ℕ} {n k : ℕ} → (part ≡ take n l) × (length part ≡ n) → k < n → get_or part k 0 ≡ get_or l k 0
held-same l {part} {n} {k} p m = ap (λ (xs : List ℕ). get_or xs k 0) p.0 ∙ get_or-take n l k 0 m

pub held-item : (l : List ℕ) {part : List ℕ} {n k x : ℕ} → (part ≡ take n l) × (length part ≡ n) → k < length part → ((d : ℕ) → x ≡ get_or part k d) → x ≡ get_or l k 0
held-item l p m e = e 0 ∙ held-same l p (omega (arith, p.1))
