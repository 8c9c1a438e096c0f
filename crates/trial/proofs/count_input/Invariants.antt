-- Each turn of `count_input` counts at most 65,536 bytes, and no more lines than bytes: the two counts stand as a pair here.
use Rattle.std.proofs.Common.{◌*◌, ◌≤◌}
use Rattle.trial.proofs.count_input.Given as goal

abbrev pub invariant-loop : goal.invariant-loop
invariant-loop l = (l.counted.0 ≤ 65536 * l.counter) × (l.counted.1.0 ≤ l.counted.0)
