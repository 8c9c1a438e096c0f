-- `put_refusal` meets its contract: its parts, put in a row, each where there is room for it and for those behind it.
use mathlib.Core.Path.{sym}
use native.Mathlib.Omega.{arith}
use Rattle.identifiers.proofs.LawsBytes.{puts-as, ◌▸◌}
use Rattle.text.proofs.LawsDigits.{decimal-in, length-decimal}
use Rattle.text.proofs.LawsPutting.{put-fits, put_on}
use Rattle.sheet.specs.Text.{refusal_line}
use Rattle.sheet.proofs.printing.put_refusal.Goals as goal

pub returns : goal.returns
unfolding refusal_line
returns c =
    let p1 = put_on 8 15 (omega arith) (omega arith) c.put-first.ensures in
    let p2 = put_on 5 10 (length-decimal 5 _ (omega arith) (omega arith)) p1.1 c.put_decimal-word.ensures in
    let p3 = put_on 4 6 (omega arith) p2.1 c.put-second.ensures in
    let p4 = put_on 5 1 (length-decimal 5 _ (omega (arith, c.requires)) (omega arith)) p3.1 c.put_decimal-end.ensures in
    let p5 = put-fits (omega (arith, p4.1)) c.put.ensures in
    let number = puts-as p2.0 (sym (decimal-in 5 _ (omega arith) (omega arith))) in
    let offset = puts-as p4.0 (sym (decimal-in 5 _ (omega arith) (omega (arith, c.requires)))) in
    rw (← c.number.ensures) (p1.0 ▸ number ▸ p3.0 ▸ offset ▸ p5)
