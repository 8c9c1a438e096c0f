-- `store_each` meets its contract: after i turns the first i bytes are in.
use Rattle.std.proofs.Common.{refl, sym}
use Rattle.identifiers.proofs.LawsBytes.{written_none, copy_more}
use Rattle.receiver.proofs.bytes.store_each.Goals as goal

pub loop-i-init : goal.loop-i-init
loop-i-init c = record { ends = refl; holds = sym (written_none _ _) }

pub loop-i-preserved : goal.loop-i-preserved
loop-i-preserved c = copy_more c.args.bytes.now c.args.at c.loop-i.i c.loop-i-test.true c.loop-i.invariant
