-- What the loop of `digits_in` keeps true.
use Rattle.logs.proofs.LawsFound.{Reading}
use Rattle.logs.proofs.parts.digits_in.Given as goal

abbrev pub invariant-loop-byte : goal.invariant-loop-byte
invariant-loop-byte l = Reading l.base l.digits l.good l.value l.byte-index
