-- `put_two` meets its contract: five parts put in a row, each where there is room for it and for those behind it.
use Rattle.std.proofs.Common.{◌+◌, length, arith}
use Rattle.identifiers.proofs.LawsBytes.{keeps-length, ◌▸◌}
use Rattle.text.proofs.LawsDigits.{length-decimal}
use Rattle.text.proofs.LawsPutting.{put-fits, put_on}
use Rattle.import.proofs.summary.put_two.Goals as goal

pub returns : goal.returns
returns c =
    let first = length c.args.first.now in
    let second = length c.args.second.now in
    let p1 = put_on first (20 + (second + 21)) (omega arith) (omega (arith, c.requires)) c.put-a.ensures in
    let p2 = put_on 20 (second + 21) (length-decimal 20 c.args.number (omega arith) (omega arith)) p1.1 c.put_decimal-b.ensures in
    let p3 = put_on second 21 (omega arith) p2.1 c.put-c.ensures in
    let p4 = put_on 20 1 (length-decimal 20 c.args.other (omega arith) (omega arith)) p3.1 c.put_decimal-d.ensures in
    let p5 = put-fits (omega (arith, p4.1)) c.put.ensures in
    record { puts = p1.0 ▸ p2.0 ▸ p3.0 ▸ p4.0 ▸ p5; upper_bound = omega (arith, p4.1, p5.ends, keeps-length p5) }
