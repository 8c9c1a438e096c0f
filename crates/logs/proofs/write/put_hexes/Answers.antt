-- `put_hexes` meets its contract: after each turn the digits of the bytes before it stand in the text.
use mathlib.Core.Path.{ap}
use lib.Seq.{take_all}
use Rattle.identifiers.proofs.LawsBytes.{puts_none, puts-as}
use Rattle.logs.specs.Written.{hexes}
use Rattle.logs.proofs.LawsWritten.{put-more}
use Rattle.logs.proofs.write.put_hexes.Goals as goal

pub loop-byte-init : goal.loop-byte-init
unfolding hexes
loop-byte-init c = puts_none _ _

pub loop-byte-preserved : goal.loop-byte-preserved
loop-byte-preserved c = put-more c.args.bytes.now c.requires c.loop-byte-test.true c.loop-byte.invariant c.put_hex-at.ensures

pub returns : goal.returns
returns c = puts-as c.loop-byte.invariant (ap hexes (take_all _ _ c.loop-byte-test.false))
