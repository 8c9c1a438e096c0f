-- `count_newlines` meets its contract: the lines counted are those of the bytes passed.
use Rattle.std.proofs.Common.{ℕ, ◌+◌, sym, ap, ◌∙◌, arith, take_all}
use Rattle.text.specs.Digits.{newlines}
use Rattle.trial.proofs.LawsCounts.{lines_none, line-more, line_same, passed-within}
use Rattle.trial.proofs.count_newlines.Goals as goal
use Rattle.trial.proofs.count_newlines.Goals.{then-byte-eq10, else-byte-eq10}

pub loop-byte-init : goal.loop-byte-init
loop-byte-init c = sym lines_none

pub overflow_add-lines : goal.overflow_add-lines
overflow_add-lines c = omega (arith, passed-within c.args.chunk.now c.loop-byte.byte-index (omega arith), c.loop-byte.invariant)

pub loop-byte-preserved : goal.loop-byte-preserved
loop-byte-preserved c =
    let inv = c.loop-byte.invariant in
    elim c.if-byte-eq10.branch [
      | then-byte-eq10 w ↦ w.lines-is ∙ ap (λ (n : ℕ). n + 1) inv ∙ line-more _ _ c.loop-byte-test.true w.if-byte-eq10.true
      | else-byte-eq10 w ↦ w.lines-is ∙ inv ∙ line_same _ _ c.loop-byte-test.true w.if-byte-eq10.false
    ]

pub returns : goal.returns
returns c = c.loop-byte.invariant ∙ ap newlines (take_all _ _ c.loop-byte-test.false)
