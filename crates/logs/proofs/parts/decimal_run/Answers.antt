-- `decimal_run` meets its contract: the digits from here end where those from the start end, and the value is that of the digits passed.
use Rattle.logs.proofs.LawsFound.{running-first, running_more, running-stop, running-past}
use Rattle.logs.proofs.parts.decimal_run.Goals as goal

pub loop-end-init : goal.loop-end-init
loop-end-init c = running-first _ _

pub loop-end-preserved : goal.loop-end-preserved
loop-end-preserved c = running_more c.loop-end.invariant c.loop-end-test.true c.if-not-byte.false

pub returns-then-not-byte : goal.returns-then-not-byte
returns-then-not-byte c = running-stop c.loop-end.invariant c.loop-end-test.true c.if-not-byte.true

pub returns : goal.returns
returns c = rw c.max.ensures (running-past c.loop-end.invariant c.loop-end-test.false)
