-- What the loop of `values_from` keeps true.
use Rattle.logs.proofs.LawsPairs.{Valued}
use Rattle.logs.proofs.parts.values_from.Given as goal

abbrev pub invariant-loop-i : goal.invariant-loop-i
invariant-loop-i l = Valued l.text l.from l.values l.i
