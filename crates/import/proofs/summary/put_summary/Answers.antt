-- `put_summary` meets its contract: by the two cases.
use Rattle.std.proofs.Common.{ℕ, ◌∙◌, sym, ap}
use Rattle.importing.specs.Summaries.{refused_text}
use Rattle.identifiers.proofs.LawsBytes.{puts-as}
use Rattle.importing.proofs.LawsSummaries.{counts-text, refused-text}
use Rattle.import.specs.Counting.{summary_of}
use Rattle.import.proofs.summary.put_summary.Goals as goal

pub returns-in-Ok-clause-puts : goal.returns-in-Ok-clause-puts
returns-in-Ok-clause-puts c = puts-as c.put_two.ensures.puts (counts-text _ _ ∙ ap summary_of (sym c.in-Ok.is))

pub returns-in-Err-clause-puts : goal.returns-in-Err-clause-puts
returns-in-Err-clause-puts c =
    puts-as c.put_two-in-Err.ensures.puts (refused-text _ _ ∙ ap (λ (k : ℕ). refused_text k c.in-Err.bad.line) c.number.ensures ∙ ap summary_of (sym c.in-Err.is))
