-- Laws of lines taken from a text, one after the other: a line more, a bad one, and the end.
use mathlib.Core.Path.{◌≡◌, sym, ap, ◌∙◌}
use mathlib.Core.List.{List}
use Prim.Native.Nat.{ℕ, ◌+◌, ◌-◌, ◌≤◌}
use native.Mathlib.Omega.{arith}
use lib.ListN.{length, take, drop, length-drop}
use lib.Seq.{drop-drop, take_all}
use Rattle.std.specs.Prelude.{Option, Some, Ok, Err}
use Rattle.logs.specs.Grammar.{Each}
use Rattle.logs.specs.Fronts.{in_line, front_end, front_read}
use Rattle.logs.specs.declared.read.Front.{Front}
use Rattle.logs.proofs.LawsFronts.{Ended, front-ended}
use Rattle.import.specs.Counting.{next_counts, Counted, Standing, TakesLines, FindsBad}
use Rattle.import.specs.declared.counting.Counts.{Counts}
use Rattle.import.specs.declared.counting.BadLine.{BadLine}
use Rattle.import.proofs.LawsStanding.{next-counted, bad-counted, standing-line, bad-stops}

-- what the front of the bytes that are left was read as
pub front-is : (text : List ℕ) (at : ℕ) {f : Option Front} → f ≡ front_read (take (length text - at) (drop at text)) → f ≡ front_read (drop at text)
front-is text at reads = reads ∙ ap front_read (take_all (length text - at) (drop at text) (omega (arith, length-drop at text)))

-- the lines up to a place are taken
pub record Taking (before : Counts) (text : List ℕ) (c : Counts) (at : ℕ) : Type 0 where
  pub stands : (log : List ℕ) → Standing log before text → Standing log c (drop at text)
  pub counted : Counted c
  pub near : at ≤ length text
  pub few : c.lines ≤ before.lines + at

pub taking-first : (c : Counts) (text : List ℕ) → Counted c → Taking c text c 0
taking-first c text k = record { stands = λ log s. s; counted = k; near = omega arith; few = omega arith }

module _ {before : Counts} {text : List ℕ} {c : Counts} {at : ℕ} (t : Taking before text c at) where
  pub taken-open : Each in_line (drop at text) → TakesLines before text (record { counts = c; at = at })
  taken-open h = record { stands = t.stands; begun_line = h; near = t.near; counted = t.counted; few = omega (arith, t.few, t.near) }

  -- the front line, which a newline ends
  module _ {f : Front} (reads : Some f ≡ front_read (take (length text - at) (drop at text))) where
    front : Ended (drop at text) f
    front = front-ended (drop at text) (front-is text at reads)

    pub line-ends : at + f.next ≤ length text
    line-ends = omega (arith, front.inside, front.behind, length-drop at text, t.near)

    pub line-some : 1 ≤ f.next
    line-some = omega (arith, front.behind)

    pub taking-line : {n : Counts} → Ok n ≡ next_counts c f.line → Taking before text n (at + f.next)
    taking-line {n} e =
        let k = next-counted c f.line t.counted e in
        let place : drop (front_end (drop at text) + 1) (drop at text) ≡ drop (at + f.next) text =
        drop-drop (front_end (drop at text) + 1) at text ∙ ap (λ (j : ℕ). drop (at + j) text) (sym front.behind) in
        record {
          stands = λ log s. rw place at (standing-line (t.stands log s) front.inside (e ∙ ap (next_counts c) front.reads));
          counted = k.0;
          near = line-ends;
          few = omega (arith, k.1, t.few, line-some);
        }

    pub finds-bad : {b : BadLine} → Err b ≡ next_counts c f.line → FindsBad before text b
    finds-bad e =
        record {
          stops = λ log s. bad-stops (t.stands log s) front.inside (e ∙ ap (next_counts c) front.reads);
          few = omega (arith, bad-counted c f.line e, t.few, line-ends, line-some);
        }
