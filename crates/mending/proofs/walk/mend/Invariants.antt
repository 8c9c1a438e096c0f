-- What each turn of `mend` keeps, and what falls.
use Prim.Native.Nat.{◌-◌}
use lib.ListN.{length}
use Rattle.mending.proofs.LawsGoing.{Going}
use Rattle.mending.proofs.walk.mend.Given as goal

abbrev pub invariant-loop-at : goal.invariant-loop-at
invariant-loop-at l = Going l.input l.initial.kept l.initial.page l.kept l.page l.at l.start l.end l.listed

abbrev pub decreases-loop-at : goal.decreases-loop-at
decreases-loop-at l = length l.input - l.at
