-- Laws of the end of a log: the line that has begun taken with a newline behind it is taken as the last one.
use mathlib.Core.Path.{◌≡◌, ap, ◌∙◌}
use mathlib.Core.List.{List, [], ◌∷◌, ◌++◌}
use Prim.Native.Nat.{ℕ, ◌+◌, ◌≤◌, ◌<◌}
use native.Mathlib.Numerals.{add-one}
use lib.ListN.{length, take, set}
use lib.Seq.{take-suc-set}
use Rattle.std.specs.Prelude.{Ok, Err}
use Rattle.import.specs.Counting.{counts_of, TakesLines, FindsBad, Ends}
use Rattle.import.specs.declared.counting.Counts.{Counts}
use Rattle.import.specs.declared.counting.BadLine.{BadLine}
use Rattle.import.specs.declared.counting.Taken.{Taken}
use Rattle.import.proofs.LawsStanding.{standing-more, refused-ends, whole-ends, newline-same, none_left}

-- the bytes that are held, and a newline behind them
pub with_newline : (buffer : List ℕ) {held : ℕ} → held < length buffer → take (held + 1) (set buffer held 10) ≡ take held buffer ++ (10 ∷ [])
with_newline buffer {held} h = ap (λ (k : ℕ). take k (set buffer held 10)) (add-one held) ∙ take-suc-set buffer held 10 h

module _ (c : Counts) (rest : List ℕ) (some : 1 ≤ length rest) where
  pub ends-taken : {t : Taken} → TakesLines c (rest ++ (10 ∷ [])) t → Ends c rest (Ok t.counts)
  ends-taken {t} k =
      record {
        ends = λ log s h.
            ap counts_of (newline-same s h some) ∙ whole-ends (k.stands (log ++ (10 ∷ [])) (standing-more s (10 ∷ []))) (none_left rest t.at k.begun_line);
      }

  pub ends-bad : {b : BadLine} → FindsBad c (rest ++ (10 ∷ [])) b → Ends c rest (Err b)
  ends-bad k = record { ends = λ log s h. ap counts_of (newline-same s h some) ∙ refused-ends (log ++ (10 ∷ [])) (k.stops (log ++ (10 ∷ [])) (standing-more s (10 ∷ []))) }
