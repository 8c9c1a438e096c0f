-- Before each turn of `read_log` the line that has begun stands at the start of the buffer, and the counts are those of what was read before it.
use Rattle.import.proofs.LawsRead.{Looping}
use Rattle.import.proofs.read_log.Given as goal

abbrev pub invariant-loop-turn : goal.invariant-loop-turn
invariant-loop-turn l = Looping l.buffer l.counts l.held l._turn
