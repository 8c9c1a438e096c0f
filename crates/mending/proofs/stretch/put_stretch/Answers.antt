-- `put_stretch` meets its contract: nothing of no byte; else its parts, put in a row, each where there is room for it and for those behind it.
use mathlib.Core.Path.{ap}
use Prim.Native.Nat.{◌+◌}
use native.Mathlib.Omega.{arith}
use lib.ListN.{length}
use Rattle.identifiers.proofs.LawsBytes.{◌▸◌}
use Rattle.text.specs.Digits.{decimal}
use Rattle.text.proofs.LawsPutting.{put-fits, put_on}
use Rattle.mending.specs.Listed.{stretch_line}
use Rattle.mending.proofs.LawsListed.{a-stretch, length-parts}
use Rattle.mending.proofs.stretch.put_stretch.Goals as goal

pub returns : goal.returns
unfolding stretch_line
returns c =
    let count = length (decimal c.args.count) in
    let offset = length (decimal c.args.offset) in
    let line = a-stretch c.args.offset c.args.count c.if-count-eq0.false in
    let room = c.requires in
    let p1 = put_on 8 (count + (4 + (offset + 1))) (omega arith) (omega (arith, room, ap length line, length-parts c.args.offset c.args.count)) c.put-first.ensures in
    let p2 = put_on count (4 + (offset + 1)) (omega arith) p1.1 c.put_decimal-word.ensures in
    let p3 = put_on 4 (offset + 1) (omega arith) p2.1 c.put-second.ensures in
    let p4 = put_on offset 1 (omega arith) p3.1 c.put_decimal-end.ensures in
    let p5 = put-fits (omega (arith, p4.1)) c.put.ensures in
    rw line (p1.0 ▸ p2.0 ▸ p3.0 ▸ p4.0 ▸ p5)
