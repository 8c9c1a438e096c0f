-- Laws of what is said of the counts.
use mathlib.Core.Path.{◌≡◌, refl}
use Rattle.std.specs.Prelude.{Result, Ok, Err}
use Rattle.identifiers.specs.declared.refusal.Refusal.{Refusal}
use Rattle.importing.specs.Logs.{LogRead}
use Rattle.importing.specs.Summaries.{summary_by, summary_text}
use Rattle.import.specs.Counting.{counts_by, counts_of, summary_of}

-- the summary of what is known is that of its counts
pub summary-counts : (r : LogRead) → summary_of (counts_of r) ≡ summary_text r
summary-counts r = by_answer r.answer
  where
    by_answer : (a : Result (Unit {0}) Refusal) → summary_of (counts_by a r.lines r.frames r.passed) ≡ summary_by a r.lines r.frames r.passed
    by_answer (Ok u) = refl
    by_answer (Err why) = refl
