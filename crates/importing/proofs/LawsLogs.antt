-- Laws of the fold: what a line does by what it is read as, bytes that are held, a line with its newline, the end of a log, and a refused log.
use mathlib.Core.Path.{◌≡◌, refl, sym, ap, ◌∙◌}
use mathlib.Core.Bool.{Bool, true, false, false≢true}
use mathlib.Core.List.{List, [], ◌∷◌, ◌++◌, append_assoc, append-nil}
use Prim.Native.Nat.{ℕ, ◌+◌, ◌≤◌}
use native.Mathlib.Omega.{arith}
use borrow.Author.Tests.{eq-eqb, ne_eqb}
use lib.ListN.{length}
use Rattle.identifiers.specs.declared.refusal.Refusal.{Refusal}
use Rattle.identifiers.proofs.LawsChoice.{pick_true, pick-false}
use Rattle.trains.specs.Sequences.{◌▹◌}
use Rattle.logs.specs.Grammar.{Each}
use Rattle.logs.specs.Grammar.Each.{none, one}
use Rattle.logs.specs.Fronts.{in_line}
use Rattle.logs.specs.Lines.{line_read}
use Rattle.logs.proofs.LawsFronts.{ends-line}
use Rattle.importing.specs.Logs.{LogRead, begun, imported, stamped, refused_at, took_frame, took_line, going, holding, took_byte, took, at_end}
use Rattle.std.specs.Prelude.{Some, None, Ok, Err, Result}
use Rattle.logs.specs.Outcomes.{LineRead}
use Rattle.logs.specs.declared.answer.LogFrame.{LogFrame}

-- ---- the answer so far
pub goes_on : {a : Result (Unit {0}) Refusal} → a ≡ Ok tt → going a ≡ true
unfolding going
goes_on e = rw e

pub stops : {a : Result (Unit {0}) Refusal} {why : Refusal} → a ≡ Err why → going a ≡ false
unfolding going
stops e = rw e

-- ---- a line, by what it is read as
module _ (r : LogRead) where
  pub line_frame : {f : LogFrame} → line_read r.held ≡ Ok (Some f)
      → took_line r ≡ record { held = []; lines = r.lines + 1; frames = r.frames + 1; passed = r.passed; sequence = r.sequence ▹ stamped f; answer = Ok tt }
  unfolding took_line took_frame
  line_frame e = rw e

  pub line-over : line_read r.held ≡ Ok None
      → took_line r ≡ record { held = []; lines = r.lines + 1; frames = r.frames; passed = r.passed + 1; sequence = r.sequence; answer = Ok tt }
  unfolding took_line took_frame
  line-over e = rw e

  pub line_refused : (why : Refusal) → line_read r.held ≡ Err why → took_line r ≡ refused_at (r.lines + 1) why
  unfolding took_line took_frame
  line_refused why e = rw e

  -- whatever it is, nothing is held behind it
  pub line-holds-none : (took_line r).held ≡ []
  unfolding took_line took_frame
  line-holds-none = by_answer (line_read r.held)
    where
      by_answer : (a : LineRead) → (took_frame r a).held ≡ []
      by_answer (Ok (Some f)) = refl
      by_answer (Ok None) = refl
      by_answer (Err why) = refl

-- ---- one byte
pub not-newline : (b : ℕ) → in_line b ≡ true → b ≡ 10 → ⊥
not-newline b h e = false≢true (sym (ends-line b e) ∙ h)

module _ (r : LogRead) where
  pub byte-held : (b : ℕ) → going r.answer ≡ true → in_line b ≡ true → took_byte r b ≡ holding r (r.held ++ (b ∷ []))
  unfolding took_byte
  byte-held b g h = pick_true _ _ g ∙ pick-false _ _ (ne_eqb b 10 (not-newline b h))

  pub byte-newline : going r.answer ≡ true → took_byte r 10 ≡ took_line r
  unfolding took_byte
  byte-newline g = pick_true _ _ g ∙ pick_true _ _ (eq-eqb 10 10 refl)

  pub byte-stopped : (b : ℕ) → going r.answer ≡ false → took_byte r b ≡ r
  unfolding took_byte
  byte-stopped b g = pick-false _ _ g

-- ---- two pieces in a row
pub took-append : (r : LogRead) (a b : List ℕ) → took r (a ++ b) ≡ took (took r a) b
unfolding took
took-append r [] b = refl
took-append r (x ∷ a) b = took-append (took_byte r x) a b

-- ---- behind a refused line
pub took-stops : (r : LogRead) (t : List ℕ) → going r.answer ≡ false → took r t ≡ r
unfolding took
took-stops r [] g = refl
took-stops r (b ∷ t) g = ap (λ (q : LogRead). took q t) (byte-stopped r b g) ∙ took-stops r t g

-- ---- bytes without a newline are held; a newline ends the line
pub took-held : (r : LogRead) (l : List ℕ) → going r.answer ≡ true → Each in_line l → took r l ≡ holding r (r.held ++ l)
unfolding took
took-held r [] g none = ap (holding r) (sym (append-nil r.held))
took-held r (b ∷ l) g (one h hs) =
    ap (λ (q : LogRead). took q l) (byte-held r b g h) ∙ took-held (holding r (r.held ++ (b ∷ []))) l g hs ∙ ap (holding r) (append_assoc r.held (b ∷ []) l)

pub took-line : (r : LogRead) (l t : List ℕ) → going r.answer ≡ true → Each in_line l → took r (l ++ (10 ∷ t)) ≡ took (took_line (holding r (r.held ++ l))) t
unfolding took
took-line r l t g h =
    took-append r l (10 ∷ t) ∙ ap (λ (q : LogRead). took (took_byte q 10) t) (took-held r l g h) ∙ ap (λ (q : LogRead). took q t) (byte-newline (holding r (r.held ++ l)) g)

-- the same where nothing is held yet
pub took-front : (r : LogRead) (l t : List ℕ) → r.held ≡ [] → going r.answer ≡ true → Each in_line l → took r (l ++ (10 ∷ t)) ≡ took (took_line (holding r l)) t
took-front r l t begins g h = took-line r l t g h ∙ ap (λ (k : List ℕ). took (took_line (holding r (k ++ l))) t) begins

pub took-begun : (r : LogRead) (t : List ℕ) → r.held ≡ [] → going r.answer ≡ true → Each in_line t → took r t ≡ holding r t
took-begun r t begins g h = took-held r t g h ∙ ap (λ (k : List ℕ). holding r (k ++ t)) begins

-- ---- the end
module _ (r : LogRead) where
  pub at-end-none : r.held ≡ [] → at_end r ≡ r
  unfolding at_end
  at-end-none e = by_answer (going r.answer) refl
    where
      by_answer : (t : Bool) → going r.answer ≡ t → at_end r ≡ r
      by_answer true g = pick_true _ _ g ∙ pick_true _ _ (eq-eqb (length r.held) 0 (ap length e))
      by_answer false g = pick-false _ _ g

  pub at-end-stopped : going r.answer ≡ false → at_end r ≡ r
  unfolding at_end
  at-end-stopped g = pick-false _ _ g

  pub at-end-line : going r.answer ≡ true → 1 ≤ length r.held → at_end r ≡ took_line r
  unfolding at_end
  at-end-line g h = pick_true _ _ g ∙ pick-false _ _ (ne_eqb (length r.held) 0 (λ (e : length r.held ≡ 0). omega arith))

  -- a newline more changes nothing where a last line has begun
  pub at-end-is : going r.answer ≡ true → 1 ≤ length r.held → at_end r ≡ took r (10 ∷ [])
  unfolding took
  at-end-is g h = at-end-line g h ∙ sym (byte-newline r g)

pub took-none : (r : LogRead) → took r [] ≡ r
unfolding took
took-none r = refl

pub imported-is : (log : List ℕ) → imported log ≡ at_end (took begun log)
unfolding imported
imported-is log = refl
