-- `put` meets its contract: after i turns the first i bytes of the text stand in the buffer.
use mathlib.Core.Path.{refl, sym}
use lib.Seq.{take_all}
use Rattle.identifiers.proofs.LawsBytes.{written_none, copy_more}
use Rattle.text.proofs.LawsPutting.{puts-fitting, puts_nothing}
use Rattle.text.proofs.putting.put.Goals as goal

pub returns-in_default : goal.returns-in_default
returns-in_default c = puts_nothing _ _ _ c.in_default.ensures

pub loop-i-init : goal.loop-i-init
loop-i-init c = record { ends = refl; holds = sym (written_none _ _) }

pub loop-i-preserved : goal.loop-i-preserved
loop-i-preserved c = copy_more _ _ _ c.loop-i-test.true c.loop-i.invariant

pub returns : goal.returns
returns c =
    let all = take_all _ _ c.loop-i-test.false in
    puts-fitting c.in-Some.ensures.0 (record { ends = c.in-Some.ensures.1; holds = (rw all at c.loop-i.invariant).holds })
