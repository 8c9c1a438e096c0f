-- Laws of a log read chunk after chunk: what holds before each turn, and what is known where the reading ends.
use mathlib.Core.Path.{◌≡◌, sym, ap, ◌∙◌, subst}
use mathlib.Core.List.{List, [], ◌++◌}
use Prim.Native.Nat.{ℕ, ◌+◌, ◌-◌, ◌*◌, ◌≤◌, ◌<◌}
use native.Mathlib.Omega.{arith}
use lib.ListN.{length, take, drop, take-append-drop, length-drop}
use lib.Seq.{take-take, length-take-le}
use Rattle.std.specs.Prelude.{Result, Err}
use Rattle.identifiers.specs.Refusals.{refusal}
use Rattle.logs.specs.Grammar.{Each}
use Rattle.logs.specs.Grammar.Each.{none}
use Rattle.logs.specs.Fronts.{in_line}
use Rattle.importing.specs.Logs.{imported}
use Rattle.import.specs.Counting.{counts_of, begun_counts, Counted, Ready, Standing, TakesLines, FindsBad, Ends, Moved}
use Rattle.import.specs.declared.counting.Counts.{Counts}
use Rattle.import.specs.declared.counting.BadLine.{BadLine}
use Rattle.import.specs.declared.counting.Taken.{Taken}
use Rattle.import.proofs.LawsStanding.{standing-first, standing-more, refused-ends, long-ends}

-- this is what the import of a log counts
abbrev pub OfLog : Result Counts BadLine → Type 0
OfLog r = (log : List ℕ) × (r ≡ counts_of (imported log))

-- before a turn: the line that has begun stands at the start of the buffer, and of a log these are the counts of all before it
pub record Looping (buffer : List ℕ) (c : Counts) (held turn : ℕ) : Type 0 where
  pub long : length buffer ≡ 65536
  pub short : held ≤ 255
  pub counted : Counted c
  pub few : c.lines ≤ 65536 * turn
  pub log : List ℕ
  pub stands : Standing log c (take held buffer)
  pub open-line : Each in_line (take held buffer)

pub looping-first : (buffer : List ℕ) → length buffer ≡ 65536 → Looping buffer begun_counts 0 0
looping-first buffer h =
    record {
      long = h;
      short = omega arith;
      counted = record { frames = omega arith; passed = omega arith };
      few = omega arith;
      log = [];
      stands = standing-first;
      open-line = none;
    }

-- what is read stands behind that line
pub looping-read : {before : List ℕ} {c : Counts} {held turn : ℕ} (buffer : List ℕ) → Looping before c held turn → take held buffer ≡ take held before → length buffer ≡ 65536 → Looping buffer c held turn
looping-read {c = c} buffer l kept long =
    record {
      long = long;
      short = l.short;
      counted = l.counted;
      few = l.few;
      log = l.log;
      stands = subst (Standing l.log c) (sym kept) l.stands;
      open-line = subst (Each in_line) (sym kept) l.open-line;
    }

module _ {buffer : List ℕ} {c : Counts} {held turn : ℕ} (l : Looping buffer c held turn) (some : turn < 140737488355328) where
  pub ready : (n : ℕ) → n ≤ 65536 → Ready c n
  ready n h = record { counted = l.counted; room = omega (arith, l.few) }

  -- the input has ended
  pub read-end : {r : Result Counts BadLine} → Ends c (take held buffer) r → OfLog r
  read-end e = (l.log, sym (e.ends l.log l.stands l.open-line))

-- a turn in which bytes were read up to a place
pub record Turn (buffer : List ℕ) (c : Counts) (held turn end : ℕ) : Type 0 where
  pub looping : Looping buffer c held turn
  pub some : turn < 140737488355328
  pub behind : held ≤ end
  pub within : end ≤ 65536

module _ {buffer : List ℕ} {c : Counts} {held turn end : ℕ} (u : Turn buffer c held turn end) where
  abbrev text-log : List ℕ
  text-log = u.looping.log ++ drop held (take end buffer)

  stands-text : Standing text-log c (take end buffer)
  stands-text =
      let front : take held (take end buffer) ≡ take held buffer = take-take held end buffer u.behind in
      let whole : take held buffer ++ drop held (take end buffer) ≡ take end buffer = ap (λ (y : List ℕ). y ++ drop held (take end buffer)) (sym front) ∙ take-append-drop held (take end buffer) in
      subst (Standing text-log c) whole (standing-more u.looping.stands (drop held (take end buffer)))

  -- a line was refused
  pub read-bad : {b : BadLine} → FindsBad c (take end buffer) b → OfLog (Err b)
  read-bad f = (text-log, sym (refused-ends text-log (f.stops text-log stands-text)))

  pub text-long : length (take end buffer) ≡ end
  text-long = length-take-le end buffer (omega (arith, u.looping.long, u.within))

  -- or the lines were taken
  module _ {t : Taken} (k : TakesLines c (take end buffer) t) where
    pub at-near : t.at ≤ end
    at-near = omega (arith, k.near, text-long)

    few-lines : t.counts.lines ≤ 65536 * (turn + 1)
    few-lines = omega (arith, k.few, text-long, u.looping.few, u.within)

    pub ready-still : Ready t.counts 1
    ready-still = record { counted = k.counted; room = omega (arith, few-lines, u.some) }

    -- the line that has begun is too long
    pub read-long : 255 < end - t.at → {b : BadLine} → b ≡ record { refusal = refusal 25; line = t.counts.lines + 1 } → OfLog (Err b)
    read-long h e =
        let n : 255 < length (drop t.at (take end buffer)) = omega (arith, length-drop t.at (take end buffer), text-long) in
        (text-log, ap Err e ∙ sym (long-ends (k.stands text-log stands-text) k.begun_line n))

    -- it is moved to the start
    pub looping-again : end - t.at ≤ 255 → {moved : List ℕ} {count : ℕ} → Moved buffer t.at end count moved → Looping moved t.counts count (turn + 1)
    looping-again h {moved} {count} m =
        record {
          long = m.long ∙ u.looping.long;
          short = omega (arith, m.many);
          counted = k.counted;
          few = few-lines;
          log = text-log;
          stands = subst (Standing text-log t.counts) (sym m.stand) (k.stands text-log stands-text);
          open-line = subst (Each in_line) (sym m.stand) k.begun_line;
        }
