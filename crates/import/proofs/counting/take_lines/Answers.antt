-- `take_lines` meets its contract: after each turn the lines up to a place are taken.
use Rattle.std.proofs.Common.{arith}
use Rattle.std.proofs.lemmas.Result.{err_from_is_err_and}
use Rattle.logs.proofs.LawsFronts.{front-open}
use Rattle.import.proofs.LawsTaking.{front-is, taken-open, line-ends, line-some, taking-line, finds-bad}
use Rattle.import.proofs.counting.take_lines.Goals as goal

pub next-requires : goal.next-requires
next-requires c =
    let inv = c.loop-front.invariant in
    record { counted = inv.counted; room = omega (arith, inv.few, line-ends inv c.in-Some.ensures, line-some inv c.in-Some.ensures, c.requires.room) }

pub returns-in_err-counts : goal.returns-in_err-counts
returns-in_err-counts c =
    let p = err_from_is_err_and c.from_residual.result c.from_residual.ensures.1 in
    rw (p.1, p.2) (finds-bad c.loop-front.invariant c.in-Some.ensures c.in_err-counts.ensures)

pub overflow_add-at : goal.overflow_add-at
overflow_add-at c = omega (arith, line-ends c.loop-front.invariant c.in-Some.ensures)

pub loop-front-smaller : goal.loop-front-smaller
loop-front-smaller c = omega (arith, line-ends c.loop-front.invariant c.in-Some.ensures, line-some c.loop-front.invariant c.in-Some.ensures)

pub loop-front-preserved : goal.loop-front-preserved
loop-front-preserved c = taking-line c.loop-front.invariant c.in-Some.ensures c.in_ok-counts.ensures

pub returns : goal.returns
returns c = taken-open c.loop-front.invariant (front-open _ (front-is c.args.text.now c.loop-front.at c.in_default.ensures))
