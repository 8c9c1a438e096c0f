-- `compose` meets its contract: the mask, the three numbers and the newline in a row, of at most 66 bytes.
use Rattle.std.proofs.Common.{arith}
use native.Mathlib.Nat.{le_of_eq}
use Rattle.identifiers.proofs.LawsBytes.{◌▸◌}
use Rattle.text.proofs.LawsDigits.{length-hex}
use Rattle.text.proofs.LawsPutting.{put-given, put_on}
use Rattle.trial.specs.Trial.{trial_text}
use Rattle.trial.proofs.LawsTrial.{length-number}
use Rattle.trial.proofs.compose.Goals as goal

pub returns : goal.returns
unfolding trial_text
returns c =
    let mask = put_on 2 64 (le_of_eq (length-hex _)) (omega (arith, c.requires)) c.put_hex-at.ensures in
    let own = put-given 21 43 (length-number c.args.words.own (omega arith)) mask.1 c.put_number-at.ensures in
    let bytes = put-given 21 22 (length-number c.args.counted.bytes (omega arith)) own.1 c.put_number-at-2.ensures in
    let lines = put-given 21 1 (length-number c.args.counted.lines (omega arith)) bytes.1 c.put_number-at-3.ensures in
    let end = put_on 1 0 (omega arith) lines.1 c.put.ensures in
    record { puts = mask.0 ▸ own.0 ▸ bytes.0 ▸ lines.0 ▸ end.0; upper_bound = omega (arith, end.1) }
