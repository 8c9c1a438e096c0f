-- What a record that keeps its rules has, rule by rule.
use mathlib.Core.Path.{◌≡◌, refl, sym, ap, ◌∙◌}
use mathlib.Core.Bool.{Bool, true, false, ◌&&◌}
use mathlib.Core.Logic.{⊎_elim}
use mathlib.Core.List.{List}
use Prim.Native.Nat.{ℕ, zero, suc, ◌+◌, ◌-◌, ◌≤◌, ◌<◌}
use native.Mathlib.Nat.{eq-or-lt_of_le}
use native.Mathlib.Numerals.{add-one}
use native.Mathlib.Omega.{arith}
use borrow.Author.Tests.{leb-true, ltb-true, eqb-true, eqb-false, eq-eqb, ne_eqb, lt-ltb, le-leb}
use lib.Dec.{eqb, ltb}
use lib.Bits.{bit_and, bit_or, or_comm}
use lib.ListN.{get_or}
use Rattle.std.specs.Prelude.{Result, Ok, Err}
use Rattle.identifiers.specs.Choice.{pick, both}
use Rattle.identifiers.specs.Below.{all_below}
use Rattle.identifiers.specs.Refusals.{refusal}
use Rattle.identifiers.specs.declared.refusal.Refusal.{Refusal}
use Rattle.identifiers.proofs.LawsChoice.{stop, so, both_true, both_false, both-assoc, and_is}
use Rattle.identifiers.proofs.LawsBelow.{all-suc, all-at, all-each, all-fails}
use Rattle.server.specs.Mask.{sound_mask}
use Rattle.server.specs.Trailer.{ascending, codes_below, status_within, statuses_within, length_within, lengths_within, sound_record, checked_as}
use Rattle.server.specs.declared.trailer.TrailerRecord.{TrailerRecord}
use Rattle.server.proofs.LawsMask.{and-of-or, part-within}

pub record Sound (t : TrailerRecord) : Type 0 where
  pub count : t.count ≤ 63
  pub held : t.held ≤ 16
  pub mask : sound_mask t.availability ≡ true
  pub codes : codes_below t ≡ true
  pub ascend : ascending t.codes t.count ≡ true
  pub statuses : statuses_within t ≡ true
  pub identifiers : ascending t.identifiers t.held ≡ true
  pub lengths : lengths_within t ≡ true

pub sound-has : (t : TrailerRecord) → sound_record t ≡ true → Sound t
unfolding sound_record
sound-has t e =
    let a = both_true _ _ e in
    let b = both_true _ _ a.0 in
    let f = both_true _ _ a.1 in
    let g = both_true _ _ f.0 in
    let h = both_true _ _ g.0 in
    let i = both_true _ _ h.0 in
    let j = both_true _ _ i.0 in
    record { count = leb-true _ _ b.0; held = leb-true _ _ b.1; mask = j.0; codes = j.1; ascend = i.1; statuses = h.1; identifiers = g.1; lengths = f.1 }

pub sound-from : (t : TrailerRecord) → Sound t → sound_record t ≡ true
unfolding sound_record both
sound-from t s = rw (le-leb t.count 63 s.count, le-leb t.held 16 s.held, s.mask, s.codes, s.ascend, s.statuses, s.identifiers, s.lengths)

-- what `check` answers, and what that says of the record
pub checked-sound : (t : TrailerRecord) {r : Result (Unit {0}) Refusal} {u : Unit {0}} → r ≡ checked_as t → r ≡ Ok u → sound_record t ≡ true
unfolding checked_as pick
checked-sound t {r} {u} p q = by (sound_record t) refl (sym p ∙ q)
  where
    by : (b : Bool) → sound_record t ≡ b → pick b (Ok tt) (Err (refusal 1)) ≡ Ok u → b ≡ true
    by true s e = refl
    by false s e = cc

pub checked-1 : (t : TrailerRecord) {r : Result (Unit {0}) Refusal} {why : Refusal} → r ≡ checked_as t → r ≡ Err why → (sound_record t ≡ false) × (why ≡ refusal 1)
unfolding checked_as pick
checked-1 t {r} {why} p q = by (sound_record t) refl (sym p ∙ q)
  where
    by : (b : Bool) → sound_record t ≡ b → pick {A = Result (Unit {0}) Refusal} b (Ok tt) (Err (refusal 1)) ≡ Err why → (b ≡ false) × (why ≡ refusal 1)
    by true s e = absurd cc
    by false s e = (refl, cc)

pub length-within : (t : TrailerRecord) (k : ℕ) → lengths_within t ≡ true → k < t.held → (1 ≤ get_or t.lengths k 0) × (get_or t.lengths k 0 ≤ 32)
unfolding lengths_within length_within
length-within t k e l = let b = both_true _ _ (all-at _ k t.held e l) in (leb-true _ _ b.0, leb-true _ _ b.1)

-- ---- the codes: the last of those that ascend is the greatest
last-greatest : (codes : List ℕ) (n : ℕ) → all_below (λ i. ltb (get_or codes i 0) (get_or codes (i + 1) 0)) n ≡ true → (i : ℕ) → i ≤ n → get_or codes i 0 ≤ get_or codes n 0
last-greatest codes zero e i l = let q : i ≡ zero = omega arith in rw q (omega arith)
last-greatest codes (suc n) e i l =
    let s = both_true _ _ (sym (all-suc _ n) ∙ e) in
    ⊎_elim (λ (q : i ≡ suc n). rw q (omega arith))
    (λ (q : i < suc n). omega (arith, last-greatest codes n s.0 i (omega arith), ltb-true (get_or codes n 0) (get_or codes (n + 1) 0) s.1, ap (λ (k : ℕ). get_or codes k 0) (add-one n))) (eq-or-lt_of_le l)

pub codes-by-last : (codes : List ℕ) (count : ℕ) → 0 < count → (ascending codes count && ltb (get_or codes (count - 1) 0) 0xFFFFFF) ≡ both (all_below (λ i. ltb (get_or codes i 0) 0xFFFFFF) count) (ascending codes count)
unfolding ascending
codes-by-last codes count l = by (ascending codes count) (ltb (get_or codes (count - 1) 0) 0xFFFFFF) refl refl
  where
    by : (a b : Bool) → ascending codes count ≡ a → ltb (get_or codes (count - 1) 0) 0xFFFFFF ≡ b → (a && b) ≡ both (all_below (λ i. ltb (get_or codes i 0) 0xFFFFFF) count) a
    by false b p q = sym (both_false _)
    by true false p q = stop true (all-fails _ (count - 1) count (omega arith) q)
    by true true p q = so (all-each _ count (λ i h. lt-ltb (get_or codes i 0) 0xFFFFFF (omega (arith, last-greatest codes (count - 1) p i (omega arith), ltb-true (get_or codes (count - 1) 0) 0xFFFFFF q)))) refl

-- none of those that ascend stands at two places
pub ascend-apart : (codes : List ℕ) (n i j : ℕ) → ascending codes n ≡ true → i < j → j < n → get_or codes i 0 < get_or codes j 0
unfolding ascending
ascend-apart codes n i j e l m =
    omega (arith, ltb-true (get_or codes i 0) (get_or codes (i + 1) 0) (all-at _ i (n - 1) e (omega arith)), last-greatest codes j (all-each _ j (λ k h. all-at _ k (n - 1) e (omega arith))) (i + 1) (omega arith))

-- ---- the statuses: of none no bit is outside the mask, and of two together none where none is of each
pub none_within : (availability : ℕ) → status_within availability 0 ≡ true
unfolding status_within
none_within availability = refl

pub both-within : (availability a b : ℕ) → status_within availability (bit_or a b) ≡ (status_within availability a && status_within availability b)
unfolding status_within
both-within availability a b = by (eqb (bit_and a availability) a) (eqb (bit_and b availability) b) refl refl
  where
    by : (p q : Bool) → eqb (bit_and a availability) a ≡ p → eqb (bit_and b availability) b ≡ q → eqb (bit_and (bit_or a b) availability) (bit_or a b) ≡ (p && q)
    by false q m n = ne_eqb _ _ (λ e. eqb-false _ _ m (part-within a b availability e))
    by true false m n = ne_eqb _ _ (λ e. eqb-false _ _ n (part-within b a availability (rw (or_comm b a) e)))
    by true true m n = eq-eqb _ _ (and-of-or a b availability ∙ rw (eqb-true (bit_and a availability) a m, eqb-true (bit_and b availability) b n))

-- the tests of a record in a row, as the code and as the definition joins them
pub tests-in-a-row : (a b c d e f : Bool) → ((((a && both b c) && d) && e) && f) ≡ both (both (both (both (both a b) c) d) e) f
tests-in-a-row a b c d e f = simp (and_is, ← both-assoc)
