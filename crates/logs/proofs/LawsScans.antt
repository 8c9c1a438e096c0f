-- Laws of a scan: the time, the identifier and the data as the code finds them are the line's parts by their places.
use mathlib.Core.Path.{◌≡◌, refl, sym, ap, ◌∙◌}
use mathlib.Core.Bool.{Bool, true, false, ◌&&◌, false≢true}
use mathlib.Core.List.{List}
use Prim.Native.Nat.{ℕ, ◌+◌, ◌*◌, ◌/◌, ◌%◌, ◌^◌, ◌≤◌}
use native.Mathlib.Nat.{mod-eq_of_lt}
use native.Mathlib.Omega.{arith}
use borrow.Author.Tests.{eq-eqb, eqb-true, ne_eqb, leb-true}
use lib.Dec.{leb, ltb, eqb}
use lib.ListN.{length, get_or}
use Rattle.std.specs.Prelude.{Option, Some, None}
use Rattle.identifiers.specs.Choice.{pick, both}
use Rattle.identifiers.proofs.LawsChoice.{and_is, both_true, taken, passed, stop, so}
use Rattle.text.specs.Digits.{between, is_digit, value_from}
use Rattle.text.specs.Reading.{all_digits}
use Rattle.text.proofs.LawsReading.{value-below}
use Rattle.logs.specs.Grammar.{stamp_of, number_of_name}
use Rattle.logs.specs.Outcomes.{LineRead, data_bytes}
use Rattle.logs.specs.Parts.{end_of, part, digits_in, pairs_from, digits_said, Ran}
use Rattle.logs.specs.Lines.{dot_at, interface_at, gap_at, is_three, mark_at, line_bytes, end_at, timed, parted, named, begins, line_stamp, line_number, said}
use Rattle.logs.specs.Scans.{time_said, name_said, name_reads, scanned}
use Rattle.logs.specs.declared.answer.DataBytes.{DataBytes}
use Rattle.logs.specs.declared.scan.Time.{Time}
use Rattle.logs.specs.declared.scan.Name.{Name}
use Rattle.logs.proofs.LawsRuns.{end-near, part_length}
use Rattle.logs.proofs.LawsFound.{front-mod, digits-say, no-digits, some_picked, none_picked, none_unless}
use Rattle.logs.proofs.LawsLines.{name-reads}

-- tests in a row, as the code asks them
step : (a : Bool) {x y : Bool} → x ≡ y → (a && x) ≡ both a y
step a {x} {y} e = and_is a x ∙ ap (both a) e

-- so few digits that nothing is lost modulo 2^32
exact : (base : ℕ) (l : List ℕ) (from k : ℕ) {value : ℕ} → Some value ≡ digits_said base l from (from + k) → base ^ k ≤ 2 ^ 32 → value ≡ value_from base 0 (part l from (from + k))
unfolding digits_in
exact base l from k f h =
    let s = digits-say base l from (from + k) f in
    let t = both_true (leb (from + k) (length l)) (all_digits base (part l from (from + k))) s.0 in
    let n : length (part l from (from + k)) ≡ k = part_length l from k (leb-true _ _ t.0) in
    let p : base ^ length (part l from (from + k)) ≡ base ^ k = ap (λ (j : ℕ). base ^ j) n in
    s.1 ∙ mod-eq_of_lt (omega (arith, value-below base (part l from (from + k)) t.1))

-- the dot stands in the text, or right behind it
pub dot-close : (l : List ℕ) → dot_at l ≤ length l + 1
unfolding dot_at
dot-close l = end-near (is_digit 10) l 1 (length l + 1) (omega arith) (omega arith)

gap-close : (l : List ℕ) → gap_at l ≤ length l + 9
unfolding gap_at interface_at
gap-close l =
    let m = length l + 9 in
    end-near (between 33 126) l _ m (end-near (between 32 32) l _ m (omega (arith, dot-close l)) (omega arith)) (omega arith)

pub mark-close : (l : List ℕ) → mark_at l ≤ length l + 18
unfolding mark_at pick
mark-close l = by_digits (is_three l)
  where
    by_digits : (t : Bool) → pick t (gap_at l + 4) (gap_at l + 9) ≤ length l + 18
    by_digits true = omega (arith, gap-close l)
    by_digits false = omega (arith, gap-close l)

-- ---- the time
module _ (l : List ℕ) {dot seconds : ℕ} (r : Ran l 1 dot seconds) where
  dot-is : dot ≡ dot_at l
  unfolding dot_at
  dot-is = r.ends

  micros-in : timed l ≡ true → digits_in 10 l (dot + 1) (dot + 7) ≡ true
  unfolding timed
  micros-in t = rw dot-is (both_true _ _ (both_true _ _ (both_true _ _ (both_true _ _ t).1).1).1).0

  not_timed : (timed l ≡ true → ⊥) → None ≡ time_said l
  unfolding time_said
  not_timed n = none_unless (timed l) _ n

  pub no-micros : None ≡ digits_said 10 l (dot + 1) (dot + 7) → None ≡ time_said l
  no-micros e = not_timed (λ t. false≢true (sym (no-digits 10 l (dot + 1) (dot + 7) e) ∙ micros-in t))

  module _ {micros : ℕ} (m : Some micros ≡ digits_said 10 l (dot + 1) (dot + 7))
      {a b e : ℕ} (f : a ≡ get_or l 0 0) (g : b ≡ get_or l dot 0) (h : e ≡ get_or l (dot + 7) 0) where
    time-test : (eqb a 40 && (ltb 1 dot && (eqb b 46 && eqb e 41))) ≡ timed l
    unfolding timed both
    time-test =
        let i : digits_in 10 l (dot_at l + 1) (dot_at l + 7) ≡ true = rw dot-is at (digits-say 10 l (dot + 1) (dot + 7) m).0 in
        step (eqb a 40) (step (ltb 1 dot) (and_is (eqb b 46) (eqb e 41))) ∙ rw (f, g, h, dot-is, i)

    pub time-found : (eqb a 40 && (ltb 1 dot && (eqb b 46 && eqb e 41))) ≡ true → Some (record { dot = dot; stamp = (seconds * 1000 + micros / 1000) % 2 ^ 32 }) ≡ time_said l
    unfolding time_said line_stamp stamp_of
    time-found t =
        let seven : dot + 1 + 6 ≡ dot + 7 = omega arith in
        let x : micros ≡ value_from 10 0 (part l (dot + 1) (dot + 7)) = exact 10 l (dot + 1) 6 (rw seven m) (omega arith) ∙ rw seven in
        taken _ (sym time-test ∙ t)
        (rw (r.says, x, ← dot-is)
        (ap (λ (n : ℕ). Some (record { dot = dot; stamp = n })) (front-mod (2 ^ 32) (value_from 10 0 (part l 1 dot)) 1000 (value_from 10 0 (part l (dot + 1) (dot + 7)) / 1000))))

    pub time-not : (eqb a 40 && (ltb 1 dot && (eqb b 46 && eqb e 41))) ≡ false → None ≡ time_said l
    unfolding time_said
    time-not t = passed _ (sym time-test ∙ t) refl

-- ---- the identifier
module _ (l : List ℕ) {dot interface gap : ℕ} (d : dot ≡ dot_at l) (a : interface ≡ end_of (between 32 32) l (dot + 8)) (b : gap ≡ end_of (between 33 126) l interface) where
  interface-is : interface ≡ interface_at l
  unfolding interface_at
  interface-is = a ∙ ap (λ (k : ℕ). end_of (between 32 32) l (k + 8)) d

  gap_is : gap ≡ gap_at l
  unfolding gap_at
  gap_is = b ∙ ap (end_of (between 33 126) l) interface-is

  parted-is : {x : ℕ} → x ≡ get_or l gap 0 → (ltb (dot + 8) interface && (ltb interface gap && eqb x 32)) ≡ parted l
  unfolding parted
  parted-is {x} e = step (ltb (dot + 8) interface) (and_is (ltb interface gap) (eqb x 32)) ∙ rw (e, d, interface-is, gap_is)

  number_is : (k : ℕ) {value : ℕ} → mark_at l ≡ gap + 1 + k → Some value ≡ digits_said 16 l (gap + 1) (gap + 1 + k) → 16 ^ k ≤ 2 ^ 32 → value ≡ line_number l
  unfolding line_number number_of_name
  number_is k m f h = exact 16 l (gap + 1) k f h ∙ rw (← m, gap_is)

  three-is : {y : ℕ} {t : Bool} → y ≡ get_or l (gap + 4) 0 → eqb y 35 ≡ t → is_three l ≡ t
  unfolding is_three
  three-is ey e = rw (← gap_is, ← ey) e

  -- where no identifier stands
  not_named : (named l ≡ true → ⊥) → None ≡ name_said l
  unfolding name_said
  not_named n = none_unless (named l) _ n

  is_named : (t : Bool) → parted l ≡ true → digits_in 16 l (gap + 1) (mark_at l) ≡ true → eqb (get_or l (mark_at l) 0) 35 ≡ t → named l ≡ t
  unfolding named
  is_named t p e f = sym (so p (so (rw gap_is at e) (sym f)))

  pub not-parted : {x : ℕ} → x ≡ get_or l gap 0 → (ltb (dot + 8) interface && (ltb interface gap && eqb x 32)) ≡ false → None ≡ name_said l
  unfolding named
  not-parted ex q = not_named (λ t. false≢true (sym (sym (parted-is ex) ∙ q) ∙ (both_true _ _ t).0))

  module _ {y : ℕ} (ey : y ≡ get_or l (gap + 4) 0) where
    three-mark : y ≡ 35 → gap + 4 ≡ mark_at l
    unfolding mark_at
    three-mark e = ap (λ (k : ℕ). k + 4) gap_is ∙ taken _ (three-is ey (eq-eqb _ _ e)) refl

    eight-mark : (y ≡ 35 → ⊥) → gap + 9 ≡ mark_at l
    unfolding mark_at
    eight-mark e = ap (λ (k : ℕ). k + 9) gap_is ∙ passed _ (three-is ey (ne_eqb _ _ e)) refl

    no-name : {to : ℕ} → to ≡ mark_at l → None ≡ digits_said 16 l (gap + 1) to → None ≡ name_said l
    unfolding named
    no-name {to} m e = not_named (λ t. false≢true (sym (no-digits 16 l (gap + 1) to e) ∙ rw (m, gap_is) (both_true _ _ (both_true _ _ t).1).0))

    pub no-three : y ≡ 35 → None ≡ digits_said 16 l (gap + 1) (gap + 4) → None ≡ name_said l
    no-three e f = no-name (three-mark e) f

    pub no-eight : (y ≡ 35 → ⊥) → None ≡ digits_said 16 l (gap + 1) (gap + 9) → None ≡ name_said l
    no-eight e f = no-name (eight-mark e) f

    pub no_mark : {z : ℕ} → z ≡ get_or l (gap + 9) 0 → (y ≡ 35 → ⊥) → (z ≡ 35 → ⊥) → None ≡ name_said l
    unfolding named
    no_mark {z} ez e f =
        not_named (λ t. f (ez ∙ ap (λ (k : ℕ). get_or l k 0) (eight-mark e) ∙ eqb-true _ _ (both_true _ _ (both_true _ _ t).1).1))

    module _ {x : ℕ} (ex : x ≡ get_or l gap 0) (q : (ltb (dot + 8) interface && (ltb interface gap && eqb x 32)) ≡ true) where
      found : {to : ℕ} {value : ℕ} → to ≡ mark_at l → Some value ≡ digits_said 16 l (gap + 1) to → get_or l to 0 ≡ 35 → named l ≡ true
      found {to} m f e =
          is_named true (sym (parted-is ex) ∙ q) (rw m at (digits-say 16 l (gap + 1) to f).0) (rw (← m) (eq-eqb _ _ e))

      pub name-three : {value : ℕ} → y ≡ 35 → Some value ≡ digits_said 16 l (gap + 1) (gap + 4) → Some (record { mark = gap + 4; number = None }) ≡ name_said l
      unfolding name_said
      name-three e f =
          let m = three-mark e in
          taken _ (found m f (sym ey ∙ e)) (rw (three-is ey (eq-eqb _ _ e), m) (ap (λ (n : Option ℕ). Some (record { mark = mark_at l; number = n })) (taken _ refl refl)))

      pub name-eight : {z value : ℕ} → z ≡ get_or l (gap + 9) 0 → (y ≡ 35 → ⊥) → z ≡ 35 → Some value ≡ digits_said 16 l (gap + 1) (gap + 9) → Some (record { mark = gap + 9; number = Some value }) ≡ name_said l
      unfolding name_said
      name-eight {z} {value} ez e g f =
          let m = eight-mark e in
          let k : gap + 9 ≡ gap + 1 + 8 = omega arith in
          let n : value ≡ line_number l = number_is 8 (sym m ∙ k) (rw k at f) (omega arith) in
          taken _ (found m f (sym ez ∙ g)) (rw (m, n) (ap (λ (o : Option ℕ). Some (record { mark = mark_at l; number = o })) (passed _ (three-is ey (ne_eqb _ _ e)) refl)))

-- ---- the whole
module _ (l : List ℕ) where
  pub time-says : {t : Time} → Some t ≡ time_said l → (timed l ≡ true) × (t ≡ record { dot = dot_at l; stamp = line_stamp l })
  unfolding time_said
  time-says f = some_picked _ f

  name-says : {n : Name} → Some n ≡ name_said l → (named l ≡ true) × (n ≡ record { mark = mark_at l; number = pick (is_three l) None (Some (line_number l)) })
  unfolding name_said
  name-says f = some_picked _ f

  pub mark-says : {n : Name} → Some n ≡ name_said l → n.mark ≡ mark_at l
  mark-says f = ap (λ (n : Name). n.mark) (name-says f).1

  pub scan-no-time : None ≡ time_said l → None ≡ scanned l
  unfolding time_said scanned begins
  scan-no-time f = passed _ (sym (stop _ (none_picked _ _ f))) refl

  module _ {t : Time} (f : Some t ≡ time_said l) where
    pub scan-no-name : None ≡ name_said l → None ≡ scanned l
    unfolding name_said scanned begins
    scan-no-name g = passed _ (sym (so (time-says f).0 (sym (none_picked _ _ g)))) refl

    pub scan-whole : {n : Name} {d : DataBytes} {r : LineRead} → Some n ≡ name_said l → d ≡ data_bytes (pairs_from 8 l (n.mark + 1)) → r ≡ name_reads n.number t.stamp d
        → Some (record { end = n.mark + 1 + 2 * d.count; line = r }) ≡ scanned l
    unfolding scanned begins end_at line_bytes
    scan-whole {n} {d} {r} g p e =
        let u = time-says f in
        let v = name-says g in
        let b : d ≡ data_bytes (line_bytes l) = p ∙ ap (λ (x : Name). data_bytes (pairs_from 8 l (x.mark + 1))) v.1 in
        let s : r ≡ said l = e ∙ name-reads l (ap (λ (x : Name). x.number) v.1) (ap (λ (x : Time). x.stamp) u.1) b in
        let w : n.mark + 1 + 2 * d.count ≡ end_at l = rw (mark-says g, b) in
        taken _ (sym (so u.0 (sym v.0))) (ap (λ (k : ℕ). Some (record { end = k; line = r })) w ∙ ap (λ (x : LineRead). Some (record { end = end_at l; line = x })) s)
