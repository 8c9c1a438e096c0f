-- Laws of a log that is read in part: bytes more, a line more, a bad line, the end.
use mathlib.Core.Path.{◌≡◌, refl, sym, ap, ◌∙◌}
use mathlib.Core.Bool.{true, false, Bool, false≢true}
use mathlib.Core.List.{List, [], ◌∷◌, ◌++◌}
use Prim.Native.Nat.{ℕ, ◌+◌, ◌≤◌, ◌<◌}
use native.Mathlib.Omega.{arith}
use lib.ListN.{length, take, drop, length-append, length-drop}
use Rattle.std.specs.Prelude.{Some, None, Result, Ok, Err}
use Rattle.identifiers.specs.Refusals.{refusal}
use Rattle.identifiers.specs.declared.refusal.Refusal.{Refusal}
use Rattle.logs.specs.Grammar.{Each}
use Rattle.logs.specs.Outcomes.{LineRead}
use Rattle.logs.specs.Lines.{line_read}
use Rattle.logs.specs.Fronts.{in_line, front_end}
use Rattle.logs.proofs.LawsLines.{line-long}
use Rattle.logs.proofs.LawsFronts.{front_cut, front-in-line, ends-line}
use Rattle.importing.specs.Logs.{LogRead, refused_at, begun, took_line, going, holding, took, at_end, imported}
use Rattle.importing.proofs.LawsLogs.{goes_on, stops, line_frame, line-over, line_refused, line-holds-none, took-append, took-stops, took-front, took-begun, at-end-none, at-end-stopped, at-end-line, imported-is, took-none, at-end-is}
use Rattle.import.specs.Counting.{counts_by, counts_of, begun_counts, next_counts, Counted, Standing}
use Rattle.import.specs.declared.counting.Counts.{Counts}
use Rattle.import.specs.declared.counting.BadLine.{BadLine}
use borrow.Author.Tests.{leb-true, leb-false}
use lib.Dec.{leb}
use lib.Seq.{drop-append-le}
use Rattle.logs.specs.Grammar.Each.{none, one}

-- ---- what the counts say of what is known
record Known (r : LogRead) (c : Counts) : Type 0 where
  pub goes : r.answer ≡ Ok tt
  pub lines : r.lines ≡ c.lines
  pub frames : r.frames ≡ c.frames
  pub passed : r.passed ≡ c.passed

module _ (r : LogRead) where
  known : {c : Counts} → counts_of r ≡ Ok c → Known r c
  known {c} e = by_answer r.answer refl e
    where
      by_answer : (a : Result (Unit {0}) Refusal) → r.answer ≡ a → counts_by a r.lines r.frames r.passed ≡ Ok c → Known r c
      by_answer (Ok u) q f = record { goes = q; lines = cc; frames = cc; passed = cc }
      by_answer (Err why) q f = cc

  -- a line more
  counts-next : {c : Counts} → counts_of r ≡ Ok c → counts_of (took_line r) ≡ next_counts c (line_read r.held)
  counts-next {c} e = by_line (line_read r.held) refl
    where
      k : Known r c
      k = known e

      by_line : (a : LineRead) → line_read r.held ≡ a → counts_of (took_line r) ≡ next_counts c a
      by_line (Ok (Some f)) q = ap counts_of (line_frame r q) ∙ rw (k.lines, k.frames, k.passed)
      by_line (Ok None) q = ap counts_of (line-over r q) ∙ rw (k.lines, k.frames, k.passed)
      by_line (Err why) q = ap counts_of (line_refused r why q) ∙ rw k.lines

pub next-counted : (c : Counts) (a : LineRead) {n : Counts} → Counted c → Ok n ≡ next_counts c a → Counted n × (n.lines ≡ c.lines + 1)
next-counted c (Ok (Some f)) {n} k e =
    let l : n.lines ≡ c.lines + 1 = cc in
    let m : n.frames ≡ c.frames + 1 = cc in
    let p : n.passed ≡ c.passed = cc in
    (record { frames = omega (arith, k.frames); passed = omega (arith, k.passed) }, l)
next-counted c (Ok None) {n} k e =
    let l : n.lines ≡ c.lines + 1 = cc in
    let m : n.frames ≡ c.frames = cc in
    let p : n.passed ≡ c.passed + 1 = cc in
    (record { frames = omega (arith, k.frames); passed = omega (arith, k.passed) }, l)
next-counted c (Err why) k e = cc

pub bad-counted : (c : Counts) (a : LineRead) {b : BadLine} → Err b ≡ next_counts c a → b.line ≡ c.lines + 1
bad-counted c (Ok (Some f)) e = cc
bad-counted c (Ok None) e = cc
bad-counted c (Err why) e = cc

-- a log that is refused is read to its end as refused
pub refused-ends : (log : List ℕ) {b : BadLine} → took begun log ≡ refused_at b.line b.refusal → counts_of (imported log) ≡ Err b
refused-ends log {b} e = ap counts_of (imported-is log ∙ ap at_end e ∙ at-end-stopped (refused_at b.line b.refusal) (stops refl))

no_byte : (l : List ℕ) → length l ≡ 0 → l ≡ []
no_byte [] e = refl
no_byte (x ∷ xs) e = absurd (omega arith)

-- ---- nothing is read yet; bytes more are read
pub standing-first : Standing [] begun_counts []
standing-first = record { state = begun; clean = refl; counts = refl; reads = refl }

module _ {log : List ℕ} {c : Counts} {rest : List ℕ} (s : Standing log c rest) where
  pub standing-more : (bytes : List ℕ) → Standing (log ++ bytes) c (rest ++ bytes)
  standing-more bytes =
      record {
        state = s.state;
        clean = s.clean;
        counts = s.counts;
        reads = took-append begun log bytes ∙ ap (λ (r : LogRead). took r bytes) s.reads ∙ sym (took-append s.state rest bytes);
      }

  state-goes : going s.state.answer ≡ true
  state-goes = goes_on (known s.state s.counts).goes

  -- ---- the front line of what is to be taken
  module _ (h : front_end rest < length rest) where
    abbrev line : List ℕ
    line = take (front_end rest) rest

    abbrev after : LogRead
    after = took_line (holding s.state line)

    line-reads : took begun log ≡ took after (drop (front_end rest + 1) rest)
    line-reads = s.reads ∙ ap (took s.state) (front_cut rest h) ∙ took-front s.state line (drop (front_end rest + 1) rest) s.clean state-goes (front-in-line rest)

    line-counts : counts_of after ≡ next_counts c (line_read line)
    line-counts = counts-next (holding s.state line) s.counts

    pub standing-line : {n : Counts} → Ok n ≡ next_counts c (line_read line) → Standing log n (drop (front_end rest + 1) rest)
    standing-line e = record { state = after; clean = line-holds-none (holding s.state line); counts = line-counts ∙ sym e; reads = line-reads }

    -- a bad line: behind it nothing else is known
    pub bad-stops : {b : BadLine} → Err b ≡ next_counts c (line_read line) → took begun log ≡ refused_at b.line b.refusal
    bad-stops {b} e = by_line (line_read line) refl e
      where
        by_line : (a : LineRead) → line_read line ≡ a → Err b ≡ next_counts c a → took begun log ≡ refused_at b.line b.refusal
        by_line (Ok (Some f)) q d = cc
        by_line (Ok None) q d = cc
        by_line (Err why) q d =
            let r : after ≡ refused_at (s.state.lines + 1) why = line_refused (holding s.state line) why q in
            let lines : b.line ≡ s.state.lines + 1 = bad-counted c (Err why) d ∙ ap (λ (k : ℕ). k + 1) (sym (known s.state s.counts).lines) in
            let whys : b.refusal ≡ why = cc in
            line-reads ∙ took-stops after (drop (front_end rest + 1) rest) (stops (ap (λ (k : LogRead). k.answer) r)) ∙ r ∙ rw (lines, whys)

  -- ---- the end
  module _ (e : length rest ≡ 0) where
    whole-state : took begun log ≡ s.state
    whole-state = s.reads ∙ ap (took s.state) (no_byte rest e) ∙ took-none s.state

    pub whole-counts : counts_of (took begun log) ≡ Ok c
    whole-counts = ap counts_of whole-state ∙ s.counts

    pub whole-ends : counts_of (imported log) ≡ Ok c
    whole-ends = ap counts_of (imported-is log ∙ ap at_end whole-state ∙ at-end-none s.state s.clean) ∙ s.counts

  module _ (h : Each in_line rest) where
    held-state : took begun log ≡ holding s.state rest
    held-state = s.reads ∙ took-begun s.state rest s.clean state-goes h

    last-line : 1 ≤ length rest → imported log ≡ took_line (holding s.state rest)
    last-line n = imported-is log ∙ ap at_end held-state ∙ at-end-line (holding s.state rest) state-goes n

    -- a last line without newline, as if it had one
    pub last-ends : 1 ≤ length rest → imported log ≡ took begun (log ++ (10 ∷ []))
    last-ends n =
        imported-is log ∙ ap at_end held-state ∙ at-end-is (holding s.state rest) state-goes n
        ∙ ap (λ (r : LogRead). took r (10 ∷ [])) (sym held-state)
        ∙ sym (took-append begun log (10 ∷ []))

    -- a newline that ends the last line changes nothing
    pub newline-same : 1 ≤ length rest → imported log ≡ imported (log ++ (10 ∷ []))
    newline-same n =
        let q = holding s.state rest in
        let t : took begun (log ++ (10 ∷ [])) ≡ took_line q = sym (last-ends n) ∙ last-line n in
        last-line n ∙ sym (imported-is (log ++ (10 ∷ [])) ∙ ap at_end t ∙ at-end-none (took_line q) (line-holds-none q))

    -- a line that is too long whatever follows
    pub long-ends : 255 < length rest → counts_of (imported log) ≡ Err (record { refusal = refusal 25; line = c.lines + 1 })
    long-ends n = ap counts_of (last-line (omega arith)) ∙ counts-next (holding s.state rest) s.counts ∙ ap (next_counts c) (line-long rest n)

-- behind the last newline of a text that ends with one nothing is left
each_last : (xs : List ℕ) → Each in_line (xs ++ (10 ∷ [])) → ⊥
each_last [] (one e none) = false≢true (sym (ends-line 10 refl) ∙ e)
each_last (x ∷ xs) (one e es) = each_last xs es

pub none_left : (xs : List ℕ) (at : ℕ) → Each in_line (drop at (xs ++ (10 ∷ []))) → length (drop at (xs ++ (10 ∷ []))) ≡ 0
none_left xs at h = by_place (leb at (length xs)) refl
  where
    by_place : (t : Bool) → leb at (length xs) ≡ t → length (drop at (xs ++ (10 ∷ []))) ≡ 0
    by_place true q =
        let k : Each in_line (drop at xs ++ (10 ∷ [])) = rw (drop-append-le at xs (10 ∷ []) (leb-true _ _ q)) at h in
        absurd (each_last (drop at xs) k)
    by_place false q = omega (arith, leb-false _ _ q, length-drop at (xs ++ (10 ∷ [])), length-append xs (10 ∷ []))
