-- After each turn of `take_lines` the lines up to a place are taken.
use Rattle.std.proofs.Common.{◌-◌, length}
use Rattle.import.proofs.LawsTaking.{Taking}
use Rattle.import.proofs.counting.take_lines.Given as goal

abbrev pub invariant-loop-front : goal.invariant-loop-front
invariant-loop-front l = Taking l.fn.begun l.text l.counts l.at

abbrev pub decreases-loop-front : goal.decreases-loop-front
decreases-loop-front l = length l.text - l.at
