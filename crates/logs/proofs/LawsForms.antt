-- Laws between the form of a line and the places of its parts: a text that begins with a line's parts, in either way, begins with them in the other.
use mathlib.Core.Path.{◌≡◌, refl, sym, ap, ◌∙◌}
use mathlib.Core.Bool.{true, false, false≢true}
use mathlib.Core.List.{List, [], ◌∷◌, ◌++◌, append_assoc}
use mathlib.Core.Logic.{◌⊎◌, inl, inr}
use Prim.Native.Nat.{ℕ, zero, suc, ◌+◌, ◌*◌, ◌%◌, ◌≤◌, ◌<◌}
use native.Mathlib.Omega.{arith}
use borrow.Author.Tests.{eq-eqb, ne_eqb, lt-ltb, le-leb}
use lib.Dec.{eqb, leb}
use lib.ListN.{length, get_or, take, drop, length-append, length-drop, get_or-append}
use lib.Seq.{drop-drop, drop-append_seam, take-append_seam, get_or-drop}
use Rattle.identifiers.specs.Choice.{both}
use Rattle.identifiers.proofs.LawsChoice.{pick_true, pick-false, stop, so}
use Rattle.text.specs.Digits.{between, is_digit}
use Rattle.text.specs.Reading.{all_digits}
use Rattle.text.proofs.LawsValue.{within, above-range, below-range, none_below}
use Rattle.logs.specs.Grammar.{Each, Made, IsLine, bytes_of}
use Rattle.logs.specs.Grammar.Each.{none, one}
use Rattle.logs.specs.Parts.{end_of, part, digits_in, pairs_from}
use Rattle.logs.specs.Lines.{dot_at, interface_at, gap_at, is_three, mark_at, line_bytes, end_at, timed, parted, named, begins}
use Rattle.logs.proofs.LawsRuns.{part-is, each_at, each-digits, Laid, laid, run_ends, stands}

-- the parts of a line at the front of a text, and what stands behind them
pub record Form (t seconds micros blanks interface name digits tail : List ℕ) : Type 0 where
  pub whole : t ≡ 40 ∷ (seconds ++ (46 ∷ (micros ++ (41 ∷ (blanks ++ (interface ++ (32 ∷ (name ++ (35 ∷ (digits ++ tail))))))))))
  pub made : Made seconds micros blanks interface name digits

-- ---- pairs of digits at the front of a text, and a byte behind them that is none
first_byte : (l : List ℕ) (at : ℕ) → get_or l at 0 ≡ get_or (drop at l) 0 0
first_byte l at = let e : at ≡ at + 0 = omega arith in ap (λ (k : ℕ). get_or l k 0) e ∙ sym (get_or-drop at l 0 0)

pairs_of : (n : ℕ) (l : List ℕ) (at : ℕ) (xs tail : List ℕ) → drop at l ≡ xs ++ tail → is_digit 16 (get_or tail 0 0) ≡ false → Each (is_digit 16) xs → length xs % 2 ≡ 0 → length xs ≤ 2 * n
    → pairs_from n l at ≡ bytes_of xs
unfolding pairs_from bytes_of
pairs_of zero l at [] tail e s h even few = refl
pairs_of zero l at (x ∷ xs) tail e s h even few = absurd (omega arith)
pairs_of (suc n) l at [] tail e s h even few =
    let z : get_or l at 0 ≡ get_or tail 0 0 = first_byte l at ∙ ap (λ (y : List ℕ). get_or y 0 0) e in
    pick-false _ _ (sym (stop _ (ap (is_digit 16) z ∙ s)))
pairs_of (suc n) l at (a ∷ []) tail e s h even few = absurd (omega arith)
pairs_of (suc n) l at (a ∷ b ∷ xs) tail e s (one f (one g hs)) even few =
    let y : get_or l at 0 ≡ a = first_byte l at ∙ ap (λ (y : List ℕ). get_or y 0 0) e in
    let z : get_or l (at + 1) 0 ≡ b = sym (get_or-drop at l 1 0) ∙ ap (λ (y : List ℕ). get_or y 1 0) e in
    let r : drop (at + 2) l ≡ xs ++ tail = sym (drop-drop 2 at l) ∙ ap (drop 2) e in
    pick_true _ _ (sym (so (ap (is_digit 16) y ∙ f) (sym (ap (is_digit 16) z ∙ g)))) ∙ cc (y, z, pairs_of n l (at + 2) xs tail r s hs (omega arith) (omega arith))

pub bytes-length : (xs : List ℕ) → length xs % 2 ≡ 0 → 2 * length (bytes_of xs) ≡ length xs
unfolding bytes_of
bytes-length [] e = refl
bytes-length (a ∷ []) e = absurd (omega arith)
bytes-length (a ∷ b ∷ xs) e = omega (arith, bytes-length xs (omega arith))

-- ---- from the form to the places
not-blank : (b : ℕ) → between 33 126 b ≡ true → between 32 32 b ≡ false
not-blank b e = let r = within 33 126 b e in above-range 32 32 b (omega arith) (omega arith)

-- blanks end where the interface begins
blanks-end : (t : List ℕ) (from : ℕ) (xs ys rest : List ℕ) → drop from t ≡ xs ++ (ys ++ rest) → Each (between 32 32) xs → Each (between 33 126) ys → 1 ≤ length ys
    → end_of (between 32 32) t from ≡ from + length xs
blanks-end t from xs [] rest e h none some = absurd (omega arith)
blanks-end t from xs (y ∷ ys) rest e h (one g gs) some = run_ends (between 32 32) t from xs y (ys ++ rest) e h (not-blank y g)

behind : (t : List ℕ) (from : ℕ) (xs ys : List ℕ) → drop from t ≡ xs ++ ys → drop (from + length xs) t ≡ ys
behind t from xs ys e = sym (drop-drop (length xs) from t) ∙ ap (drop (length xs)) e ∙ drop-append_seam xs ys

module _ {t seconds micros blanks interface name digits tail : List ℕ} (f : Form t seconds micros blanks interface name digits tail) where
  of-seconds : Laid t 1 seconds 46 (micros ++ (41 ∷ (blanks ++ (interface ++ (32 ∷ (name ++ (35 ∷ (digits ++ tail))))))))
  of-seconds = laid t 1 seconds 46 _ (ap (drop 1) f.whole)

  dot-at : dot_at t ≡ 1 + length seconds
  unfolding dot_at
  dot-at = run_ends (is_digit 10) t 1 seconds 46 _ (ap (drop 1) f.whole) f.made.seconds_digits (none_below 10 46 (omega arith) (omega arith))

  of-micros : Laid t (dot_at t + 1) micros 41 (blanks ++ (interface ++ (32 ∷ (name ++ (35 ∷ (digits ++ tail))))))
  of-micros = laid t (dot_at t + 1) micros 41 _ (rw dot-at of-seconds.behind)

  -- the bracket stands seven behind the dot
  seven : dot_at t + 1 + length micros ≡ dot_at t + 7
  seven = omega (arith, f.made.micros_six)

  eight-on : dot_at t + 1 + length micros + 1 ≡ dot_at t + 8
  eight-on = omega (arith, f.made.micros_six)

  from-blanks : drop (dot_at t + 8) t ≡ blanks ++ (interface ++ (32 ∷ (name ++ (35 ∷ (digits ++ tail)))))
  from-blanks = rw (← eight-on) of-micros.behind

  interface-at : interface_at t ≡ dot_at t + 8 + length blanks
  unfolding interface_at
  interface-at = blanks-end t (dot_at t + 8) blanks interface _ from-blanks f.made.blanks_blank f.made.interface_shown f.made.interface_some

  from-interface : drop (interface_at t) t ≡ interface ++ (32 ∷ (name ++ (35 ∷ (digits ++ tail))))
  from-interface = rw interface-at (behind t (dot_at t + 8) blanks _ from-blanks)

  of-interface : Laid t (interface_at t) interface 32 (name ++ (35 ∷ (digits ++ tail)))
  of-interface = laid t (interface_at t) interface 32 _ from-interface

  gap-at : gap_at t ≡ interface_at t + length interface
  unfolding gap_at
  gap-at = run_ends (between 33 126) t (interface_at t) interface 32 _ from-interface f.made.interface_shown (below-range 33 126 32 (omega arith))

  from-name : drop (gap_at t + 1) t ≡ name ++ (35 ∷ (digits ++ tail))
  from-name = rw gap-at of-interface.behind

  of-name : Laid t (gap_at t + 1) name 35 (digits ++ tail)
  of-name = laid t (gap_at t + 1) name 35 _ from-name

  -- the fourth byte behind the gap is the mark, or a digit
  fourth : (length name ≡ 3) ⊎ (length name ≡ 8) → is_three t ≡ eqb (length name) 3
  unfolding is_three
  fourth (inl e) =
      let p : gap_at t + 4 ≡ gap_at t + 1 + length name = omega arith in
      eq-eqb _ _ (ap (λ (k : ℕ). get_or t k 0) p ∙ of-name.byte) ∙ sym (eq-eqb _ _ e)
  fourth (inr e) =
      let p : gap_at t + 1 + 3 ≡ gap_at t + 4 = omega arith in
      let g : get_or t (gap_at t + 4) 0 ≡ get_or name 3 0 =
      ap (λ (k : ℕ). get_or t k 0) (sym p) ∙ sym (get_or-drop (gap_at t + 1) t 3 0) ∙ ap (λ (y : List ℕ). get_or y 3 0) from-name ∙ get_or-append name _ 0 3 (omega arith) in
      let d : is_digit 16 (get_or t (gap_at t + 4) 0) ≡ true = ap (is_digit 16) g ∙ each_at (is_digit 16) name 3 f.made.name_digits (omega arith) in
      let n : get_or t (gap_at t + 4) 0 ≡ 35 → ⊥ = λ q. false≢true (sym (none_below 16 35 (omega arith) (omega arith)) ∙ ap (is_digit 16) (sym q) ∙ d) in
      let m : length name ≡ 3 → ⊥ = λ q. omega arith in
      ne_eqb _ _ n ∙ sym (ne_eqb _ _ m)

  pub three-is : is_three t ≡ eqb (length name) 3
  three-is = fourth f.made.name_size

  mark-by : (length name ≡ 3) ⊎ (length name ≡ 8) → mark_at t ≡ gap_at t + 1 + length name
  unfolding mark_at
  mark-by (inl e) = pick_true _ _ (three-is ∙ eq-eqb _ _ e) ∙ omega arith
  mark-by (inr e) = let m : length name ≡ 3 → ⊥ = λ q. omega arith in pick-false _ _ (three-is ∙ ne_eqb _ _ m) ∙ omega arith

  mark-at : mark_at t ≡ gap_at t + 1 + length name
  mark-at = mark-by f.made.name_size

  from-data : drop (mark_at t + 1) t ≡ digits ++ tail
  from-data = rw mark-at of-name.behind

  -- ---- the parts between the places
  pub seconds-are : part t 1 (dot_at t) ≡ seconds
  seconds-are = rw dot-at of-seconds.parts

  pub micros-are : part t (dot_at t + 1) (dot_at t + 7) ≡ micros
  micros-are = rw (← seven) of-micros.parts

  pub blanks-are : part t (dot_at t + 8) (interface_at t) ≡ blanks
  blanks-are = rw interface-at (part-is (dot_at t + 8) (length blanks) t ∙ ap (take (length blanks)) from-blanks ∙ take-append_seam blanks _)

  pub interface-is : part t (interface_at t) (gap_at t) ≡ interface
  interface-is = rw gap-at of-interface.parts

  pub name-is : part t (gap_at t + 1) (mark_at t) ≡ name
  name-is = rw mark-at of-name.parts

  pub digits_are : drop (mark_at t + 1) t ≡ digits ++ tail
  digits_are = from-data

  -- ---- and a byte behind them that is no digit
  module _ (stops : is_digit 16 (get_or tail 0 0) ≡ false) where
    pub bytes-are : line_bytes t ≡ bytes_of digits
    unfolding line_bytes
    bytes-are = pairs_of 8 t (mark_at t + 1) digits tail from-data stops f.made.data_digits f.made.data_even f.made.data_few

    pub end-at : end_at t ≡ mark_at t + 1 + length digits
    unfolding end_at
    end-at = omega (arith, ap length bytes-are, bytes-length digits f.made.data_even)

    pub end-length : end_at t + length tail ≡ length t
    end-length =
        let b : get_or t (mark_at t) 0 ≡ 35 = rw mark-at of-name.byte in
        let n : mark_at t < length t = stands t (mark_at t) b (omega arith) in
        omega (arith, end-at, ap length from-data, length-drop (mark_at t + 1) t, length-append digits tail)

  -- ---- so the text begins with a line's parts
  stood : (from n : ℕ) {b : ℕ} → get_or t (from + n) 0 ≡ b → 0 < b → leb (from + n) (length t) ≡ true
  stood from n e h = le-leb (from + n) (length t) (omega (arith, stands t (from + n) e h))

  micros-in : digits_in 10 t (dot_at t + 1) (dot_at t + 7) ≡ true
  unfolding digits_in
  micros-in =
      sym (so (rw seven at (stood (dot_at t + 1) (length micros) of-micros.byte (omega arith)))
      (sym (ap (all_digits 10) micros-are ∙ each-digits 10 micros f.made.micros_digits)))

  name_in : digits_in 16 t (gap_at t + 1) (mark_at t) ≡ true
  unfolding digits_in
  name_in =
      sym (so (rw mark-at (stood (gap_at t + 1) (length name) of-name.byte (omega arith)))
      (sym (ap (all_digits 16) name-is ∙ each-digits 16 name f.made.name_digits)))

  is-timed : timed t ≡ true
  unfolding timed both
  is-timed =
      rw (
        eq-eqb _ _ (ap (λ (y : List ℕ). get_or y 0 0) f.whole),
        lt-ltb 1 (dot_at t) (omega (arith, dot-at, f.made.seconds_some)),
        eq-eqb (get_or t (dot_at t) 0) 46 (rw dot-at of-seconds.byte),
        micros-in,
        eq-eqb (get_or t (dot_at t + 7) 0) 41 (rw (← seven) of-micros.byte),
      )

  is-parted : parted t ≡ true
  unfolding parted both
  is-parted =
      rw (
        lt-ltb (dot_at t + 8) (interface_at t) (omega (arith, interface-at, f.made.blanks_some)),
        lt-ltb (interface_at t) (gap_at t) (omega (arith, gap-at, f.made.interface_some)),
        eq-eqb (get_or t (gap_at t) 0) 32 (rw gap-at of-interface.byte),
      )

  is-named : named t ≡ true
  unfolding named both
  is-named = rw (is-parted, name_in, eq-eqb (get_or t (mark_at t) 0) 35 (rw mark-at of-name.byte))

  pub form-begins : begins t ≡ true
  unfolding begins both
  form-begins = rw (is-timed, is-named)

-- ---- a line, and what stands behind it
pub line-form : {l seconds micros blanks interface name digits : List ℕ} → IsLine l seconds micros blanks interface name digits → (tail : List ℕ)
    → Form (l ++ tail) seconds micros blanks interface name digits tail
line-form {l} {seconds} {micros} {blanks} {interface} {name} {digits} is tail =
    record { whole = rw is.whole (simp append_assoc); made = is.made }

-- and the other way: parts at the front of a text are a line, and the text is that line and what stands behind it
module _ {t seconds micros blanks interface name digits tail : List ℕ} (f : Form t seconds micros blanks interface name digits tail) where
  abbrev pub line_of : List ℕ
  line_of = 40 ∷ (seconds ++ (46 ∷ (micros ++ (41 ∷ (blanks ++ (interface ++ (32 ∷ (name ++ (35 ∷ digits)))))))))

  pub form-cut : t ≡ line_of ++ tail
  form-cut = f.whole ∙ sym (simp append_assoc)

  pub form-line : length line_of ≤ 255 → IsLine line_of seconds micros blanks interface name digits
  form-line h = record { whole = refl; short = h; made = f.made }
