-- `bytes_from` meets its contract: after k turns k bytes are put, and with those to come they are all.
use native.Mathlib.Omega.{arith}
use Rattle.logs.proofs.LawsPairs.{pair_values, to-come-more, to-come-end, to-come-full}
use Rattle.logs.proofs.parts.bytes_from.Goals as goal

pub loop-k-preserved : goal.loop-k-preserved
loop-k-preserved c =
    let less = c.loop-k-test.true in
    let pair = pair_values _ _ _ c.values_from-values.ensures less in
    to-come-more c.loop-k.invariant _ _ less pair.0 pair.1 c.if-not-high-low.false

pub returns-then-not-high-low : goal.returns-then-not-high-low
returns-then-not-high-low c =
    let less = c.loop-k-test.true in
    let pair = pair_values _ _ _ c.values_from-values.ensures less in
    to-come-end c.loop-k.invariant _ _ less pair.0 pair.1 c.if-not-high-low.true

pub returns : goal.returns
returns c = to-come-full c.loop-k.invariant (omega arith)
