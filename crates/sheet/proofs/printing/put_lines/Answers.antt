-- `put_lines` meets its contract: after n turns the lines of the first n readings stand in the page, and the bytes behind them are left.
use mathlib.Core.Path.{◌≡◌, sym, ap, ◌∙◌}
use mathlib.Core.List.{[], ◌∷◌, ◌++◌}
use Prim.Native.Nat.{◌+◌, ◌*◌, ◌/◌}
use native.Mathlib.Omega.{arith}
use lib.ListN.{length, drop, length-append, length-drop}
use borrow.Author.Rules.{rules}
use Rattle.std.specs.Slice.Iter.{chunks_exact_rest}
use Rattle.identifiers.proofs.LawsBelow.{list-none}
use Rattle.identifiers.proofs.LawsBytes.{puts_none, keeps-length, turn}
use Rattle.sheet.specs.Readings.{readings_in}
use Rattle.sheet.specs.Text.{line_of}
use Rattle.sheet.proofs.LawsPrinted.{length-lines}
use Rattle.sheet.proofs.LawsChunks.{chunk-reading, chunk-left}
use Rattle.sheet.proofs.printing.put_lines.Goals as goal

pub loop-reading-init : goal.loop-reading-init
loop-reading-init c = (search rules, search rules, omega arith, search rules, rw (list-none _) (puts_none _ _))

pub put_line-at-requires : goal.put_line-at-requires
unfolding readings_in
put_line-at-requires c =
    let (_, size, within, left, p) = c.loop-reading.invariant in
    let step = c.in-Some.ensures.steps in
    let n = length c.loop-reading.yielded in
    omega (arith, c.requires, p.ends, keeps-length p, length-lines c.args.input.now n, size, ap length left, length-drop (17 * n) c.args.input.now, step.1.1, ap length step.1.0, length-append c.in-Some.reading.now (chunks_exact_rest c.next.new.self))

pub loop-reading-preserved : goal.loop-reading-preserved
loop-reading-preserved c =
    let (_, size, within, left, p) = c.loop-reading.invariant in
    let step = c.in-Some.ensures.steps in
    let n = length c.loop-reading.yielded in
    let x = c.in-Some.reading.now in
    let t = chunks_exact_rest c.next.new.self in
    let cut : drop (17 * n) c.args.input.now ≡ x ++ t = sym left ∙ step.1.0 in
    let long : length x ≡ 17 = step.1.1 ∙ size in
    let more : length (c.loop-reading.yielded ++ c.in-Some.reading ∷ []) ≡ n + 1 = length-append c.loop-reading.yielded (c.in-Some.reading ∷ []) in
    (omega (arith, size, step.0), step.0 ∙ size, omega (arith, more, long, within, ap length cut, length-append x t, length-drop (17 * n) c.args.input.now), rw more (chunk-left _ x t n cut long), rw more (turn _ _ p (ap line_of (c.reading_of.ensures.0 ∙ chunk-reading _ x t n cut long)) c.put_line-at.ensures))

pub returns : goal.returns
unfolding readings_in
returns c =
    let (_, size, within, left, p) = c.loop-reading.invariant in
    let n = length c.loop-reading.yielded in
    let all : n ≡ length c.args.input.now / 17 = omega (arith, size, within, ap length left, length-drop (17 * n) c.args.input.now, c.in-None.ensures.steps.1.0) in
    rw all at p
