-- `read_whole` meets its contract: each read puts at most as many bytes as there is room.
use Rattle.std.proofs.Common.{arith}
use Rattle.input.proofs.LawsWithin.{bytes-within, failed-within, more_within}
use Rattle.input.proofs.standard_input.read_whole.Goals as goal

pub returns-in_err-more : goal.returns-in_err-more
returns-in_err-more c = failed-within _ _ (c.from_residual.ensures.0)

pub overflow_add-at : goal.overflow_add-at
overflow_add-at c = omega (arith, more_within c.loop-at.buffer _ _ _ _ c.loop-at.invariant c.read_chunk.auto.buffer c.in_ok-more.was c.read_chunk.ensures)

pub loop-at-preserved : goal.loop-at-preserved
loop-at-preserved c = omega (arith, more_within c.loop-at.buffer _ _ _ _ c.loop-at.invariant c.read_chunk.auto.buffer c.in_ok-more.was c.read_chunk.ensures)

pub returns-then-more-eq0 : goal.returns-then-more-eq0
returns-then-more-eq0 c = bytes-within _ _ _ (omega arith)

pub returns-after-loop-at : goal.returns-after-loop-at
returns-after-loop-at c = bytes-within _ _ _ c.loop-at.invariant
