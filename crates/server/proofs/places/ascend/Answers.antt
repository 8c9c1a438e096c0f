-- `ascend` meets its contract: one pair more.
use native.Mathlib.Omega.{arith}
use Rattle.std.specs.Ordering.{partial_lt}
use Rattle.server.proofs.LawsAscending.{answer-more}
use Rattle.server.proofs.places.ascend.Goals as goal

pub loop-i-preserved : goal.loop-i-preserved
loop-i-preserved g c =
    rw c.lt-sound.ensures
    (answer-more (partial_lt g.T.PartialOrd.partial_cmp) c.args.numbers.now c.loop-i.i c.loop-i.sound _ _ (omega arith) (omega arith) c.index-numbers-i.is c.index-numbers-i-in-loop-i.is c.loop-i.invariant)
