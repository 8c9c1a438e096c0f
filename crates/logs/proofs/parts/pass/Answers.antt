-- `pass` meets its contract: the bytes from here end where those from the start end.
use mathlib.Core.Path.{◌≡◌, sym, ◌∙◌}
use native.Mathlib.Omega.{arith}
use Rattle.text.specs.Digits.{between}
use Rattle.text.proofs.LawsValue.{range-test}
use Rattle.logs.proofs.LawsRuns.{end_more, end-stop, end-past}
use Rattle.logs.proofs.parts.pass.Goals as goal

pub loop-end-preserved : goal.loop-end-preserved
loop-end-preserved c =
    (omega (arith, c.loop-end-test.true), end_more _ _ _ c.loop-end-test.true (sym (range-test _ _ _) ∙ c.if-not-low-byte.false) ∙ c.loop-end.invariant.1)

pub returns-then-not-low-byte : goal.returns-then-not-low-byte
returns-then-not-low-byte c = sym (end-stop _ _ _ c.loop-end-test.true (sym (range-test _ _ _) ∙ c.if-not-low-byte.true)) ∙ c.loop-end.invariant.1

pub returns : goal.returns
returns c =
    let e : c.max.result ≡ c.loop-end.end = omega (arith, c.max.ensures, c.loop-end.invariant.0, c.loop-end-test.false) in
    e ∙ sym (end-past (between c.args.low c.args.high) _ _ c.loop-end-test.false) ∙ c.loop-end.invariant.1
