-- What the loop of `decimal_run` keeps true.
use Rattle.logs.proofs.LawsFound.{Running}
use Rattle.logs.proofs.parts.decimal_run.Given as goal

abbrev pub invariant-loop-end : goal.invariant-loop-end
invariant-loop-end l = Running l.text l.from l.end l.value
