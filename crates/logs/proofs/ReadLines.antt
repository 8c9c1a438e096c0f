-- The grammar both ways: every line has one outcome by its form, and that is what is read of it.
use mathlib.Core.Path.{◌≡◌, refl, sym, ap, ◌∙◌, subst}
use mathlib.Core.Bool.{Bool, true, false, false≢true}
use mathlib.Core.List.{List, [], append-nil}
use mathlib.Core.Logic.{◌↔◌, ⊎_elim}
use Prim.Native.Nat.{ℕ, ◌^◌, ◌≤◌, ◌<◌}
use native.Mathlib.Omega.{arith}
use borrow.Author.Tests.{eq-eqb, ne_eqb, eqb-true, eqb-false, ltb-true, ltb-false, le-leb, lt-leb}
use lib.Dec.{eqb, leb, ltb}
use lib.ListN.{length, get_or, take}
use lib.Seq.{take-length}
use Rattle.std.specs.Prelude.{None, Ok, Err}
use Rattle.identifiers.specs.Refusals.{refusal}
use Rattle.identifiers.proofs.LawsChoice.{pick_true, pick-false}
use Rattle.text.specs.Digits.{is_digit}
use Rattle.text.proofs.LawsValue.{none_below}
use Rattle.logs.specs.Grammar.{Formed, stamp_of, number_of_name, bytes_of}
use Rattle.logs.specs.Outcomes.{LineRead, frame_said, Outcome, malformed, three_digits, too_large, stamped}
use Rattle.logs.specs.Lines.{is_three, end_at, begins, line_stamp, line_number, said, line_read}
use Rattle.logs.proofs.LawsLines.{line-whole, line-not, line-more, line-long}
use Rattle.logs.proofs.LawsForms.{Form, three-is, seconds-are, micros-are, blanks-are, interface-is, name-is, bytes-are, end-length, form-begins, line-form, digits_are}
use Rattle.logs.proofs.LawsBegins.{begins-line}

no_byte : is_digit 16 (get_or {A = ℕ} [] 0 0) ≡ false
no_byte = none_below 16 0 (omega arith) (omega arith)

-- ---- what the parts at the front of a text say
module _ {t seconds micros blanks interface name digits tail : List ℕ} (f : Form t seconds micros blanks interface name digits tail) (stops : is_digit 16 (get_or tail 0 0) ≡ false) where
  number_is : line_number t ≡ number_of_name name
  unfolding line_number
  number_is = ap number_of_name (name-is f)

  stamp-is : line_stamp t ≡ stamp_of seconds micros
  unfolding line_stamp
  stamp-is = rw (seconds-are f, micros-are f)

  pub said-over : length name ≡ 3 → said t ≡ Ok None
  unfolding said
  said-over h = pick_true _ _ (three-is f ∙ eq-eqb _ _ h)

  module _ (h : length name ≡ 8) where
    not_three : is_three t ≡ false
    not_three = let n : length name ≡ 3 → ⊥ = λ q. omega arith in three-is f ∙ ne_eqb _ _ n

    pub said-2 : 2 ^ 29 ≤ number_of_name name → said t ≡ Err (refusal 2)
    unfolding said
    said-2 g = pick-false _ _ not_three ∙ pick_true _ _ (ap (leb (2 ^ 29)) number_is ∙ le-leb _ _ g)

    pub said-frame : number_of_name name < 2 ^ 29 → said t ≡ frame_said (number_of_name name) (stamp_of seconds micros) (bytes_of digits)
    unfolding said
    said-frame g = pick-false _ _ not_three ∙ pick-false _ _ (ap (leb (2 ^ 29)) number_is ∙ lt-leb _ _ g) ∙ rw (number_is, stamp-is, bytes-are f stops)

-- ---- a line that has the form is read as its parts say
own-form : {l : List ℕ} (a : Formed l) → Form l a.seconds a.micros a.blanks a.interface a.name a.digits []
own-form {l} a = subst (λ (t : List ℕ). Form t a.seconds a.micros a.blanks a.interface a.name a.digits []) (append-nil l) (line-form a.is [])

formed-read : {l : List ℕ} (a : Formed l) → line_read l ≡ said l
formed-read {l} a =
    let f = own-form a in
    let n : end_at l ≡ length l = omega (arith, end-length f no_byte) in
    line-whole l (form-begins f) n (omega (arith, n, a.is.short))

pub line-over : {l : List ℕ} (a : Formed l) → length a.name ≡ 3 → line_read l ≡ Ok None
line-over a h = formed-read a ∙ said-over (own-form a) no_byte h

pub line-2 : {l : List ℕ} (a : Formed l) → length a.name ≡ 8 → 2 ^ 29 ≤ number_of_name a.name → line_read l ≡ Err (refusal 2)
line-2 a h g = formed-read a ∙ said-2 (own-form a) no_byte h g

pub line_frame : {l : List ℕ} (a : Formed l) → length a.name ≡ 8 → number_of_name a.name < 2 ^ 29
    → line_read l ≡ frame_said (number_of_name a.name) (stamp_of a.seconds a.micros) (bytes_of a.digits)
line_frame a h g = formed-read a ∙ said-frame (own-form a) no_byte h g

-- ---- a line has one form
pub record Same {l : List ℕ} (a b : Formed l) : Type 0 where
  pub seconds : a.seconds ≡ b.seconds
  pub micros : a.micros ≡ b.micros
  pub blanks : a.blanks ≡ b.blanks
  pub interface : a.interface ≡ b.interface
  pub name : a.name ≡ b.name
  pub digits : a.digits ≡ b.digits

pub one_form : {l : List ℕ} (a b : Formed l) → Same a b
one_form a b =
    let f = own-form a in
    let g = own-form b in
    record {
      seconds = sym (seconds-are f) ∙ seconds-are g;
      micros = sym (micros-are f) ∙ micros-are g;
      blanks = sym (blanks-are f) ∙ blanks-are g;
      interface = sym (interface-is f) ∙ interface-is g;
      name = sym (name-is f) ∙ name-is g;
      digits = sym (append-nil _) ∙ sym (digits_are f) ∙ digits_are g ∙ append-nil _;
    }

-- ---- a line that is read has the form
has-form : (l : List ℕ) → begins l ≡ true → end_at l ≡ length l → length l ≤ 255 → Formed l
has-form l e n h = subst Formed (ap (λ (k : ℕ). take k l) n ∙ take-length l) (begins-line l e (omega arith))

-- a line without the form is malformed
pub line-25 : (l : List ℕ) → (Formed l → ⊥) → line_read l ≡ Err (refusal 25)
line-25 l none = by-start (begins l) refl
  where
    by_length : begins l ≡ true → end_at l ≡ length l → (t : Bool) → ltb 255 (length l) ≡ t → line_read l ≡ Err (refusal 25)
    by_length e n true q = line-long l (ltb-true _ _ q)
    by_length e n false q = absurd (none (has-form l e n (ltb-false _ _ q)))

    by_end : begins l ≡ true → (t : Bool) → eqb (end_at l) (length l) ≡ t → line_read l ≡ Err (refusal 25)
    by_end e true q = by_length e (eqb-true _ _ q) (ltb 255 (length l)) refl
    by_end e false q = line-more l (eqb-false _ _ q)

    by-start : (t : Bool) → begins l ≡ t → line_read l ≡ Err (refusal 25)
    by-start true e = by_end e (eqb (end_at l) (length l)) refl
    by-start false e = line-not l e

-- ---- the outcome
-- "every line has one reading or none": what is read is the outcome,
outcome-read : (l : List ℕ) {f : LineRead} → Outcome l f → line_read l ≡ f
outcome-read l (malformed none) = line-25 l none
outcome-read l (three_digits a h) = line-over a h
outcome-read l (too_large a h g) = line-2 a h g
outcome-read l (stamped a h g) = line_frame a h g

-- and every line has an outcome
pub some-outcome : (l : List ℕ) → Outcome l (line_read l)
some-outcome l = by-start (begins l) refl
  where
    read_as : {f : LineRead} → Outcome l f → Outcome l (line_read l)
    read_as {f} o = subst (Outcome l) (sym (outcome-read l o)) o

    by_number : (a : Formed l) → length a.name ≡ 8 → (t : Bool) → ltb (number_of_name a.name) (2 ^ 29) ≡ t → Outcome l (line_read l)
    by_number a h true q = read_as (stamped a h (ltb-true _ _ q))
    by_number a h false q = read_as (too_large a h (ltb-false _ _ q))

    formed : Formed l → Outcome l (line_read l)
    formed a = ⊎_elim (λ (h : length a.name ≡ 3). read_as (three_digits a h)) (λ (h : length a.name ≡ 8). by_number a h (ltb (number_of_name a.name) (2 ^ 29)) refl) a.is.made.name_size

    by_length : begins l ≡ true → end_at l ≡ length l → (t : Bool) → ltb 255 (length l) ≡ t → Outcome l (line_read l)
    by_length e n true q = let h : 255 < length l = ltb-true _ _ q in read_as (malformed (λ a. omega (arith, a.is.short)))
    by_length e n false q = formed (has-form l e n (ltb-false _ _ q))

    by_end : begins l ≡ true → (t : Bool) → eqb (end_at l) (length l) ≡ t → Outcome l (line_read l)
    by_end e true q = by_length e (eqb-true _ _ q) (ltb 255 (length l)) refl
    by_end e false q = read_as (malformed (λ a. eqb-false (end_at l) (length l) q (omega (arith, end-length (own-form a) no_byte))))

    by-start : (t : Bool) → begins l ≡ t → Outcome l (line_read l)
    by-start true e = by_end e (eqb (end_at l) (length l)) refl
    by-start false e = read_as (malformed (λ a. false≢true (sym e ∙ form-begins (own-form a))))

pub read-exactly : (l : List ℕ) (f : LineRead) → Outcome l f ↔ line_read l ≡ f
read-exactly l f = (outcome-read l, λ e. subst (Outcome l) e (some-outcome l))

-- no line has two outcomes
pub one-outcome : (l : List ℕ) (f g : LineRead) → Outcome l f → Outcome l g → f ≡ g
one-outcome l f g o p = sym (outcome-read l o) ∙ outcome-read l p
