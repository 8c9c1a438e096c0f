-- What the loop of `bytes_from` keeps true.
use Rattle.logs.proofs.LawsPairs.{ToCome}
use Rattle.logs.proofs.parts.bytes_from.Given as goal

abbrev pub invariant-loop-k : goal.invariant-loop-k
invariant-loop-k l = ToCome l.text l.from l.bytes l.k
