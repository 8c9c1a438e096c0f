-- Laws of a text that begins with a line's parts: they are a line, and what stands behind them.
use mathlib.Core.Path.{◌≡◌, refl, sym, ap, ◌∙◌}
use mathlib.Core.Bool.{Bool, true, false, false≢true}
use mathlib.Core.List.{List, [], ◌∷◌, ◌++◌}
use mathlib.Core.Logic.{◌⊎◌, inl, inr, ⊎_elim}
use Prim.Native.Nat.{ℕ, zero, suc, ◌+◌, ◌*◌, ◌≤◌, ◌<◌}
use native.Mathlib.Omega.{arith}
use borrow.Author.Tests.{eqb-true, ltb-true, ltb-false, leb-true}
use lib.Dec.{leb, ltb}
use lib.ListN.{length, get_or, take, drop, length-append, length-drop, get_or-eq_default}
use lib.Seq.{drop-cons, take_at, length-take-le}
use Rattle.identifiers.specs.Choice.{both}
use Rattle.identifiers.proofs.LawsChoice.{both_true, by-test}
use Rattle.text.specs.Digits.{between, digit_value, is_digit}
use Rattle.text.specs.Reading.{all_digits}
use Rattle.text.proofs.LawsValue.{none_below}
use Rattle.logs.specs.Grammar.{Each, Formed, bytes_of}
use Rattle.logs.specs.Grammar.Each.{none, one}
use Rattle.logs.specs.Parts.{part, digits_in, pairs_from}
use Rattle.logs.specs.Lines.{dot_at, interface_at, gap_at, is_three, mark_at, line_bytes, end_at, timed, parted, named, begins}
use Rattle.logs.proofs.LawsRuns.{part-is, part_length, stands, cut-byte, cut-to, cut-both, length-between, part-each, part-run-length, digits-each}
use Rattle.logs.proofs.LawsForms.{Form, line_of, form-cut}

-- ---- pairs of digits from a place on: as a part of the text
two : (l : List ℕ) (at : ℕ) → at + 2 ≤ length l → drop at l ≡ get_or l at 0 ∷ (get_or l (at + 1) 0 ∷ drop (at + 2) l)
two l at h =
    let a : drop (suc at) l ≡ get_or l (suc at) 0 ∷ drop (suc (suc at)) l = drop-cons l (suc at) 0 (omega arith) in
    let e : suc at ≡ at + 1 = omega arith in
    let g : suc (suc at) ≡ at + 2 = omega arith in
    drop-cons l at 0 (omega arith) ∙ ap (λ (y : List ℕ). get_or l at 0 ∷ y) (a ∙ ap (λ (k : ℕ). get_or l k 0 ∷ drop (suc (suc at)) l) e ∙ ap (λ (k : ℕ). get_or l (at + 1) 0 ∷ drop k l) g)

digit-stands : (l : List ℕ) (i : ℕ) → is_digit 16 (get_or l i 0) ≡ true → i < length l
digit-stands l i e = by_place (ltb i (length l)) refl
  where
    by_place : (t : Bool) → ltb i (length l) ≡ t → i < length l
    by_place true q = ltb-true _ _ q
    by_place false q =
        let z : get_or l i 0 ≡ 0 = get_or-eq_default l 0 (ltb-false _ _ q) in
        absurd (false≢true (sym (none_below 16 0 (omega arith) (omega arith)) ∙ ap (is_digit 16) (sym z) ∙ e))

pub record Pairs (n : ℕ) (l : List ℕ) (at : ℕ) (found : List ℕ) : Type 0 where
  pub few : length found ≤ n
  pub near : at ≤ length l → at + 2 * length found ≤ length l
  pub digits : Each (is_digit 16) (take (2 * length found) (drop at l))
  pub say : bytes_of (take (2 * length found) (drop at l)) ≡ found

no-pair : (n : ℕ) (l : List ℕ) (at : ℕ) → Pairs n l at []
unfolding bytes_of
no-pair n l at = record { few = omega arith; near = λ h. omega arith; digits = none; say = refl }

pair-more : (n : ℕ) (l : List ℕ) (at : ℕ) (found : List ℕ) → is_digit 16 (get_or l at 0) ≡ true → is_digit 16 (get_or l (at + 1) 0) ≡ true → Pairs n l (at + 2) found
    → Pairs (suc n) l at ((digit_value (get_or l at 0) * 16 + digit_value (get_or l (at + 1) 0)) ∷ found)
unfolding bytes_of
pair-more n l at found e f p =
    let h : at + 1 < length l = digit-stands l (at + 1) f in
    let d : drop at l ≡ get_or l at 0 ∷ (get_or l (at + 1) 0 ∷ drop (at + 2) l) = two l at (omega arith) in
    let k : 2 * suc (length found) ≡ suc (suc (2 * length found)) = omega arith in
    let c : take (2 * suc (length found)) (drop at l) ≡ get_or l at 0 ∷ (get_or l (at + 1) 0 ∷ take (2 * length found) (drop (at + 2) l)) = ap (λ (j : ℕ). take j (drop at l)) k ∙ ap (take (suc (suc (2 * length found)))) d in
    record {
      few = omega (arith, p.few);
      near = λ g. omega (arith, p.near (omega arith));
      digits = rw c (one e (one f p.digits));
      say = ap bytes_of c ∙ ap (λ (y : List ℕ). (digit_value (get_or l at 0) * 16 + digit_value (get_or l (at + 1) 0)) ∷ y) p.say;
    }

pub pairs-are : (n : ℕ) (l : List ℕ) (at : ℕ) → Pairs n l at (pairs_from n l at)
unfolding pairs_from
pairs-are zero l at = no-pair zero l at
pairs-are (suc n) l at =
    let rest = pairs-are n l (at + 2) in
    (by-test {P = Pairs (suc n) l at} (both (is_digit 16 (get_or l at 0)) (is_digit 16 (get_or l (at + 1) 0)))
    (λ q. let b = both_true _ _ q in record { holds = pair-more n l at (pairs_from n l (at + 2)) b.0 b.1 rest })
    (λ q. record { holds = no-pair (suc n) l at })
    ).holds

-- ---- from the places to the form
module _ (t : List ℕ) (e : begins t ≡ true) where
  time-tests : timed t ≡ true
  unfolding begins
  time-tests = (both_true _ _ e).0

  name-tests : named t ≡ true
  unfolding begins
  name-tests = (both_true _ _ e).1

  opens : get_or t 0 0 ≡ 40
  unfolding timed
  opens = eqb-true _ _ (both_true _ _ time-tests).0

  some-seconds : 1 < dot_at t
  unfolding timed
  some-seconds = ltb-true _ _ (both_true _ _ (both_true _ _ time-tests).1).0

  dotted : get_or t (dot_at t) 0 ≡ 46
  unfolding timed
  dotted = eqb-true _ _ (both_true _ _ (both_true _ _ (both_true _ _ time-tests).1).1).0

  micros-in : digits_in 10 t (dot_at t + 1) (dot_at t + 7) ≡ true
  unfolding timed
  micros-in = (both_true _ _ (both_true _ _ (both_true _ _ (both_true _ _ time-tests).1).1).1).0

  closes : get_or t (dot_at t + 7) 0 ≡ 41
  unfolding timed
  closes = eqb-true _ _ (both_true _ _ (both_true _ _ (both_true _ _ (both_true _ _ time-tests).1).1).1).1

  part-tests : parted t ≡ true
  unfolding named
  part-tests = (both_true _ _ name-tests).0

  some-blanks : dot_at t + 8 < interface_at t
  unfolding parted
  some-blanks = ltb-true _ _ (both_true _ _ part-tests).0

  some-interface : interface_at t < gap_at t
  unfolding parted
  some-interface = ltb-true _ _ (both_true _ _ (both_true _ _ part-tests).1).0

  gapped : get_or t (gap_at t) 0 ≡ 32
  unfolding parted
  gapped = eqb-true _ _ (both_true _ _ (both_true _ _ part-tests).1).1

  name_in : digits_in 16 t (gap_at t + 1) (mark_at t) ≡ true
  unfolding named
  name_in = (both_true _ _ (both_true _ _ name-tests).1).0

  marked : get_or t (mark_at t) 0 ≡ 35
  unfolding named
  marked = eqb-true _ _ (both_true _ _ (both_true _ _ name-tests).1).1

  mark-behind : (gap_at t + 4 ≡ mark_at t) ⊎ (gap_at t + 9 ≡ mark_at t)
  unfolding mark_at
  mark-behind = (by-test {P = λ (m : ℕ). (gap_at t + 4 ≡ m) ⊎ (gap_at t + 9 ≡ m)} (is_three t) (λ q. record { holds = inl refl }) (λ q. record { holds = inr refl })).holds

  mark-far : gap_at t + 4 ≤ mark_at t
  mark-far = ⊎_elim (λ (h : gap_at t + 4 ≡ mark_at t). omega arith) (λ (h : gap_at t + 9 ≡ mark_at t). omega arith) mark-behind

  -- the data's digits, and what stands behind the line
  abbrev digits_of_data : List ℕ
  digits_of_data = part t (mark_at t + 1) (end_at t)

  data-pairs : Pairs 8 t (mark_at t + 1) (line_bytes t)
  unfolding line_bytes
  data-pairs = pairs-are 8 t (mark_at t + 1)

  data-are : digits_of_data ≡ take (2 * length (line_bytes t)) (drop (mark_at t + 1) t)
  unfolding end_at
  data-are = part-is (mark_at t + 1) (2 * length (line_bytes t)) t

  pub end-near : end_at t ≤ length t
  unfolding end_at
  end-near = data-pairs.near (omega (arith, stands t (mark_at t) marked (omega arith)))

  end-far : mark_at t + 1 ≤ end_at t
  unfolding end_at
  end-far = omega arith

  data-length : length digits_of_data ≡ 2 * length (line_bytes t)
  unfolding end_at
  data-length = part_length t (mark_at t + 1) (2 * length (line_bytes t)) end-near

  from-name : drop (gap_at t + 1) t ≡ part t (gap_at t + 1) (mark_at t) ++ (35 ∷ (digits_of_data ++ drop (end_at t) t))
  from-name = cut-both t (omega (arith, mark-far)) marked (omega arith) (cut-to t end-far)

  from-interface : drop (interface_at t) t ≡ part t (interface_at t) (gap_at t) ++ (32 ∷ (part t (gap_at t + 1) (mark_at t) ++ (35 ∷ (digits_of_data ++ drop (end_at t) t))))
  from-interface = cut-both t (omega (arith, some-interface)) gapped (omega arith) from-name

  from-blanks : drop (dot_at t + 8) t ≡ part t (dot_at t + 8) (interface_at t) ++ drop (interface_at t) t
  from-blanks = cut-to t (omega (arith, some-blanks))

  from-micros : drop (dot_at t + 1) t ≡ part t (dot_at t + 1) (dot_at t + 7) ++ (41 ∷ (part t (dot_at t + 8) (interface_at t) ++ drop (interface_at t) t))
  from-micros = let k : dot_at t + 7 + 1 ≡ dot_at t + 8 = omega arith in cut-both t (omega arith) closes (omega arith) (rw k from-blanks)

  from-seconds : drop 1 t ≡ part t 1 (dot_at t) ++ (46 ∷ (part t (dot_at t + 1) (dot_at t + 7) ++ (41 ∷ (part t (dot_at t + 8) (interface_at t) ++ drop (interface_at t) t))))
  from-seconds = cut-both t (omega (arith, some-seconds)) dotted (omega arith) from-micros

  digits_between : (base from to : ℕ) → digits_in base t from to ≡ true → (to ≤ length t) × Each (is_digit base) (part t from to)
  unfolding digits_in
  digits_between base from to q =
      let b = both_true (leb to (length t)) (all_digits base (part t from to)) q in
      (leb-true _ _ b.0, digits-each base (part t from to) b.1)

  micros-length : dot_at t + 1 + length (part t (dot_at t + 1) (dot_at t + 7)) ≡ dot_at t + 7
  micros-length = length-between t (omega arith) (digits_between 10 _ _ micros-in).0

  name_size : (length (part t (gap_at t + 1) (mark_at t)) ≡ 3) ⊎ (length (part t (gap_at t + 1) (mark_at t)) ≡ 8)
  name_size =
      let n : gap_at t + 1 + length (part t (gap_at t + 1) (mark_at t)) ≡ mark_at t = length-between t (omega (arith, mark-far)) (digits_between 16 _ _ name_in).0 in
      ⊎_elim (λ (h : gap_at t + 4 ≡ mark_at t). inl (omega arith)) (λ (h : gap_at t + 9 ≡ mark_at t). inr (omega arith)) mark-behind

  pub begins-form : Form t (part t 1 (dot_at t)) (part t (dot_at t + 1) (dot_at t + 7)) (part t (dot_at t + 8) (interface_at t)) (part t (interface_at t) (gap_at t)) (part t (gap_at t + 1) (mark_at t)) digits_of_data (drop (end_at t) t)
  unfolding dot_at interface_at gap_at
  begins-form =
      record {
        whole = cut-byte t 0 opens (omega arith) ∙ ap (λ (y : List ℕ). 40 ∷ y) (rw from-interface at from-seconds);
        made = record {
          seconds_digits = part-each (is_digit 10) t 1;
          seconds_some = omega (arith, some-seconds, part-run-length (is_digit 10) t 1);
          micros_digits = (digits_between 10 _ _ micros-in).1;
          micros_six = omega (arith, micros-length);
          blanks_blank = part-each (between 32 32) t (dot_at t + 8);
          blanks_some = omega (arith, some-blanks, part-run-length (between 32 32) t (dot_at t + 8));
          interface_shown = part-each (between 33 126) t (interface_at t);
          interface_some = omega (arith, some-interface, part-run-length (between 33 126) t (interface_at t));
          name_digits = (digits_between 16 _ _ name_in).1;
          name_size = name_size;
          data_digits = rw data-are data-pairs.digits;
          data_even = omega (arith, data-length);
          data_few = omega (arith, data-length, data-pairs.few);
        };
      }

  -- so the text is a line and what stands behind it
  pub begins-cut : take (end_at t) t ≡ line_of begins-form
  begins-cut =
      let n : length (line_of begins-form) ≡ end_at t = omega (arith, ap length (form-cut begins-form), length-append (line_of begins-form) (drop (end_at t) t), length-drop (end_at t) t, end-near) in
      ap (take (end_at t)) (form-cut begins-form) ∙ take_at (line_of begins-form) (drop (end_at t) t) (end_at t) n

  pub begins-line : end_at t ≤ 255 → Formed (take (end_at t) t)
  begins-line h =
      let s : length (take (end_at t) t) ≤ 255 = omega (arith, length-take-le (end_at t) t end-near) in
      record { seconds = _; micros = _; blanks = _; interface = _; name = _; digits = _; is = record { whole = begins-cut; short = s; made = begins-form.made } }
