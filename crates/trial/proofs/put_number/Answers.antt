-- `put_number` meets its contract: a blank, and at most twenty digits.
use Rattle.std.proofs.Common.{arith}
use Rattle.identifiers.proofs.LawsBytes.{◌▸◌}
use Rattle.text.proofs.LawsDigits.{length-decimal}
use Rattle.text.proofs.LawsPutting.{put_on}
use Rattle.trial.proofs.put_number.Goals as goal

pub returns : goal.returns
returns c room =
    let p1 = put_on 1 20 (omega arith) room c.put-digits.ensures in
    let p2 = put_on 20 0 (length-decimal 20 c.args.number (omega arith) (omega arith)) p1.1 c.put_decimal.ensures in
    p1.0 ▸ p2.0
