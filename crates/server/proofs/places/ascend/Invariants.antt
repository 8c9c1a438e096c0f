-- What the loop of `ascend` keeps true: the answer of those passed.
use Rattle.std.specs.Ordering.{partial_lt}
use Rattle.server.proofs.LawsAscending.{Answer}
use Rattle.server.proofs.places.ascend.Given as goal

abbrev pub invariant-loop-i : goal.invariant-loop-i
invariant-loop-i g l = Answer (partial_lt g.T.PartialOrd.partial_cmp) l.numbers l.i l.sound
