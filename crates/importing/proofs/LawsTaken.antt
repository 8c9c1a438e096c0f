-- Laws of the fold over lines: a log whose lines are all accepted, one with a bad line, one whose last line no newline ends, and one with a line that is too long.
use mathlib.Core.Path.{◌≡◌, refl, sym, ap, ◌∙◌}
use mathlib.Core.Bool.{Bool, true, false, false≢true}
use mathlib.Core.List.{List, [], ◌∷◌, ◌++◌}
use Prim.Native.Nat.{ℕ, ◌+◌, ◌<◌}
use native.Mathlib.Omega.{arith}
use lib.ListN.{length, length-append}
use Rattle.identifiers.specs.Refusals.{refusal}
use Rattle.identifiers.specs.declared.refusal.Refusal.{Refusal}
use Rattle.trains.specs.Sequences.{Line, ◌▹◌}
use Rattle.logs.specs.Grammar.{Each}
use Rattle.logs.specs.Fronts.{in_line}
use Rattle.logs.specs.Lines.{line_read}
use Rattle.logs.specs.declared.answer.LogFrame.{LogFrame}
use Rattle.logs.proofs.LawsLines.{line-long}
use Rattle.importing.specs.Logs.{LogRead, begun, stamped, refused_at, took_line, going, holding, took, at_end, imported}
use Rattle.importing.specs.Lines.{Cut, rest_only, line_first, counted, LinesOf, lines_are, Accepted, no_line, frame_first, over_first, frames_behind, frames_among, over_among}
use Rattle.importing.proofs.LawsLogs.{line_frame, line-over, line_refused, line-holds-none, took-append, took-stops, took-held, took-line, took-front, took-begun}
use Rattle.importing.proofs.LawsLogs.{at-end-none, at-end-stopped, at-end-line, at-end-is}
use Rattle.importing.proofs.LawsCuts.{some-cut, cut-closed}
use Rattle.std.specs.Prelude.{Some, None, Ok, Err}

-- ---- what is known where no line was refused and none has begun
abbrev pub reading : ℕ → ℕ → ℕ → Line → LogRead
reading lines frames passed h = record { held = []; lines = lines; frames = frames; passed = passed; sequence = h; answer = Ok tt }

-- one line more
module _ (n f p : ℕ) (h : Line) (l t : List ℕ) (k : Each in_line l) where
  ahead : took (reading n f p h) (l ++ (10 ∷ t)) ≡ took (took_line (holding (reading n f p h) l)) t
  unfolding going
  ahead = took-front (reading n f p h) l t refl refl k

  pub took-frame : {g : LogFrame} → line_read l ≡ Ok (Some g) → took (reading n f p h) (l ++ (10 ∷ t)) ≡ took (reading (n + 1) (f + 1) p (h ▹ stamped g)) t
  took-frame e = ahead ∙ ap (λ (q : LogRead). took q t) (line_frame (holding (reading n f p h) l) e)

  pub took-over : line_read l ≡ Ok None → took (reading n f p h) (l ++ (10 ∷ t)) ≡ took (reading (n + 1) f (p + 1) h) t
  took-over e = ahead ∙ ap (λ (q : LogRead). took q t) (line-over (holding (reading n f p h) l) e)

  pub took-refused : (why : Refusal) → line_read l ≡ Err why → took (reading n f p h) (l ++ (10 ∷ t)) ≡ refused_at (n + 1) why
  unfolding going
  took-refused why e = ahead ∙ ap (λ (q : LogRead). took q t) (line_refused (holding (reading n f p h) l) why e) ∙ took-stops (refused_at (n + 1) why) t refl

-- ---- lines that are all accepted
same-counts : {n m f g p q : ℕ} (h : Line) → n ≡ m → f ≡ g → p ≡ q → reading n f p h ≡ reading m g q h
same-counts h a b c = λ i. reading (a i) (b i) (c i) h

pub took-accepted : {log : List ℕ} {ls : List (List ℕ)} → Cut log ls [] → (a : Accepted ls) (n f p : ℕ) (h : Line)
    → took (reading n f p h) log ≡ reading (n + length ls) (f + frames_among a) (p + over_among a) (frames_behind h a)
unfolding took frames_among over_among frames_behind
took-accepted (rest_only k) no_line n f p h = same-counts h (omega arith) (omega arith) (omega arith)
took-accepted (line_first {l} {log} k c) (frame_first {f = g} e a) n f p h =
    took-frame n f p h l log k e ∙ took-accepted c a (n + 1) (f + 1) p (h ▹ stamped g) ∙ same-counts _ (omega arith) (omega arith) (omega arith)
took-accepted (line_first {l} {log} k c) (over_first e a) n f p h =
    took-over n f p h l log k e ∙ took-accepted c a (n + 1) f (p + 1) h ∙ same-counts _ (omega arith) (omega arith) (omega arith)

-- ---- lines of which one is bad
pub took-bad : {log : List ℕ} {ls front : List (List ℕ)} (bad : List ℕ) (more : List (List ℕ)) (why : Refusal) → Cut log ls [] → Accepted front → ls ≡ front ++ (bad ∷ more)
    → line_read bad ≡ Err why → (n f p : ℕ) (h : Line) → took (reading n f p h) log ≡ refused_at (n + (length front + 1)) why
took-bad bad more why (rest_only k) no_line e q n f p h = let z : ◌≡◌ {A = ℕ} 0 1 = cc in absurd (omega arith)
took-bad bad more why (rest_only k) (frame_first d a) e q n f p h = let z : ◌≡◌ {A = ℕ} 0 1 = cc in absurd (omega arith)
took-bad bad more why (rest_only k) (over_first d a) e q n f p h = let z : ◌≡◌ {A = ℕ} 0 1 = cc in absurd (omega arith)
took-bad bad more why (line_first {l} {log} k c) no_line e q n f p h =
    let i : line_read l ≡ Err why = cc in
    took-refused n f p h l log k why i
took-bad bad more why (line_first {l} {log} {ls} k c) (frame_first {f = g} {ls = front} d a) e q n f p h =
    let i : line_read l ≡ Ok (Some g) = cc in
    let j : ls ≡ front ++ (bad ∷ more) = cc in
    took-frame n f p h l log k i ∙ took-bad bad more why c a j q (n + 1) (f + 1) p (h ▹ stamped g) ∙ ap (λ (x : ℕ). refused_at x why) (omega arith)
took-bad bad more why (line_first {l} {log} {ls} k c) (over_first {ls = front} d a) e q n f p h =
    let i : line_read l ≡ Ok None = cc in
    let j : ls ≡ front ++ (bad ∷ more) = cc in
    took-over n f p h l log k i ∙ took-bad bad more why c a j q (n + 1) f (p + 1) h ∙ ap (λ (x : ℕ). refused_at x why) (omega arith)

-- ---- a log that is cut: what is held behind it
held-behind : {log : List ℕ} {ls : List (List ℕ)} {rest : List ℕ} → Cut log ls rest → (r : LogRead) → r.held ≡ [] → going (took r log).answer ≡ true → (took r log).held ≡ rest
held-behind (rest_only {rest} h) r b g = by_answer (going r.answer) refl
  where
    by_answer : (t : Bool) → going r.answer ≡ t → (took r rest).held ≡ rest
    by_answer true e = ap (λ (q : LogRead). q.held) (took-begun r rest b e h)
    by_answer false e = absurd (false≢true (sym e ∙ ap (λ (q : LogRead). going q.answer) (sym (took-stops r rest e)) ∙ g))
held-behind (line_first {l} {log} {ls} {rest} h c) r b g =
    by_answer (going r.answer) refl (λ (d : going (took (took_line (holding r l)) log).answer ≡ true). held-behind c (took_line (holding r l)) (line-holds-none (holding r l)) d)
  where
    by_answer : (t : Bool) → going r.answer ≡ t → (going (took (took_line (holding r l)) log).answer ≡ true → (took (took_line (holding r l)) log).held ≡ rest)
        → (took r (l ++ (10 ∷ log))).held ≡ rest
    by_answer true e i = let f = took-front r l log b e h in ap (λ (q : LogRead). q.held) f ∙ i (ap (λ (q : LogRead). going q.answer) (sym f) ∙ g)
    by_answer false e i = absurd (false≢true (sym e ∙ ap (λ (q : LogRead). going q.answer) (sym (took-stops r _ e)) ∙ g))

-- its last line ended: a text of the same lines, all of which a newline ends, that is imported alike
pub record Ended (log : List ℕ) (ls : List (List ℕ)) : Type 0 where
  pub text : List ℕ
  pub cut : Cut text ls []
  pub same : imported log ≡ took begun text

pub ended : {log : List ℕ} {ls : List (List ℕ)} → LinesOf log ls → Ended log ls
unfolding counted imported
ended {log} (lines_are {ls} {rest = []} c) = record { text = log; cut = c; same = by_answer (going (took begun log).answer) refl }
  where
    by_answer : (t : Bool) → going (took begun log).answer ≡ t → imported log ≡ took begun log
    by_answer true g = at-end-none (took begun log) (held-behind c begun refl g)
    by_answer false g = at-end-stopped (took begun log) g
ended {log} (lines_are {ls} {rest = b ∷ rest} c) = record { text = log ++ (10 ∷ []); cut = cut-closed c; same = by_answer (going (took begun log).answer) refl }
  where
    by_answer : (t : Bool) → going (took begun log).answer ≡ t → imported log ≡ took begun (log ++ (10 ∷ []))
    by_answer true g = at-end-is (took begun log) g (rw (held-behind c begun refl g) (omega arith)) ∙ sym (took-append begun log (10 ∷ []))
    by_answer false g = at-end-stopped (took begun log) g ∙ sym (took-append begun log (10 ∷ []) ∙ took-stops (took begun log) (10 ∷ []) g)

-- ---- a line of more than 255 bytes is refused, whatever stands behind it
long-refused : (r : LogRead) → 255 < length r.held → took_line r ≡ refused_at (r.lines + 1) (refusal 25)
long-refused r h = line_refused r (refusal 25) (line-long r.held h)

long-cut : (r : LogRead) → going r.answer ≡ true → 255 < length r.held → {more : List ℕ} {ls : List (List ℕ)} {rest : List ℕ} → Cut more ls rest
    → at_end (took r more) ≡ refused_at (r.lines + 1) (refusal 25)
unfolding going
long-cut r g h (rest_only {rest} k) =
    let n : 255 < length (r.held ++ rest) = omega (arith, length-append r.held rest) in
    ap at_end (took-held r rest g k) ∙ at-end-line (holding r (r.held ++ rest)) g (omega arith) ∙ long-refused (holding r (r.held ++ rest)) n
long-cut r g h (line_first {l} {log} k c) =
    let n : 255 < length (r.held ++ l) = omega (arith, length-append r.held l) in
    let q : LogRead = refused_at (r.lines + 1) (refusal 25) in
    ap at_end (took-line r l log g k ∙ ap (λ (x : LogRead). took x log) (long-refused (holding r (r.held ++ l)) n) ∙ took-stops q log refl) ∙ at-end-stopped q refl

pub long-ends : (r : LogRead) (more : List ℕ) → going r.answer ≡ true → 255 < length r.held → at_end (took r more) ≡ refused_at (r.lines + 1) (refusal 25)
long-ends r more g h = long-cut r g h (some-cut more).2
