-- `last_line` meets its contract: no byte is held, or the line is taken with a newline behind it.
use Rattle.std.proofs.Common.{◌≡◌, ℕ, ◌+◌, ◌<◌, ◌≤◌, List, length, take, set, arith, length-set, length-take-le}
use Rattle.std.proofs.lemmas.Result.{err_from_is_err_and}
use Rattle.import.proofs.LawsStanding.{whole-ends}
use Rattle.import.proofs.LawsEnds.{with_newline, ends-taken, ends-bad}
use Rattle.import.proofs.counting.last_line.Goals as goal

-- the bytes that are held and the newline lie in the buffer
long : (buffer : List ℕ) (held : ℕ) → held < length buffer → length (take (held + 1) (set buffer held 10)) ≡ held + 1
long buffer held h = length-take-le _ _ (omega (arith, length-set buffer held 10))

pub returns-then-held-eq0 : goal.returns-then-held-eq0
returns-then-held-eq0 c = record { ends = λ log s h. whole-ends s (omega (arith, length-take-le c.args.held c.args.buffer.now (omega (arith, c.requires.1)), c.if-held-eq0.true)) }

pub take_lines-requires : goal.take_lines-requires
take_lines-requires c =
    let pre = c.requires in
    record { counted = pre.0.counted; room = omega (arith, pre.0.room, pre.1, long c.args.buffer.now c.args.held pre.1) }

pub returns-in_err-taken : goal.returns-in_err-taken
returns-in_err-taken c =
    let held = length-take-le c.args.held c.args.buffer.now (omega (arith, c.requires.1)) in
    let some : 1 ≤ length (take c.args.held c.args.buffer.now) = omega (arith, held, c.if-held-eq0.false) in
    let p = err_from_is_err_and c.from_residual.result c.from_residual.ensures.1 in
    rw (p.1, p.2) (ends-bad c.args.counts _ some (rw (with_newline c.args.buffer.now c.requires.1) at c.in_err-taken.ensures))

pub returns : goal.returns
returns c =
    let held = length-take-le c.args.held c.args.buffer.now (omega (arith, c.requires.1)) in
    let some : 1 ≤ length (take c.args.held c.args.buffer.now) = omega (arith, held, c.if-held-eq0.false) in
    ends-taken c.args.counts _ some (rw (with_newline c.args.buffer.now c.requires.1) at c.in_ok-taken.ensures)
