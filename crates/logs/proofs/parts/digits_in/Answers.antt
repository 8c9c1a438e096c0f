-- `digits_in` meets its contract: after each turn the bytes before it are looked at.
use mathlib.Core.Path.{◌∙◌}
use mathlib.Core.Logic.{⊎_elim}
use Prim.Native.Nat.{◌≤◌, ◌<◌}
use native.Mathlib.Nat.{mul-le-mul_left}
use native.Mathlib.Omega.{arith}
use lib.ListN.{length}
use Rattle.logs.proofs.LawsRuns.{slice-part}
use Rattle.logs.proofs.LawsFound.{value-small, reading-first, reading-more, found-short, found-whole, value-short, value-whole}
use Rattle.logs.proofs.parts.digits_in.Goals as goal

pub returns-in_default-clause-said : goal.returns-in_default-clause-said
returns-in_default-clause-said c =
    let short = ⊎_elim (λ (h : c.args.to < c.args.from). absurd (omega arith)) (λ (h : length c.args.text.now < c.args.to). h) c.in_default.ensures.lookup.0 in
    found-short c.args.base c.args.text.now c.args.from c.args.to short

pub returns-in_default-clause-value : goal.returns-in_default-clause-value
returns-in_default-clause-value c =
    let short = ⊎_elim (λ (h : c.args.to < c.args.from). absurd (omega arith)) (λ (h : length c.args.text.now < c.args.to). h) c.in_default.ensures.lookup.0 in
    value-short c.args.base c.args.text.now c.args.from c.args.to short

pub loop-byte-init : goal.loop-byte-init
loop-byte-init c = reading-first _ _

pub loop-byte-preserved : goal.loop-byte-preserved
loop-byte-preserved c = reading-more c.loop-byte.invariant c.loop-byte-test.true c.digit_value-digit.ensures

pub returns-clause-said : goal.returns-clause-said
returns-clause-said c =
    let found = c.in-Some.ensures.lookup.0 in
    found-whole c.args.base c.args.text.now c.args.from c.args.to found.1 (found.2 ∙ slice-part c.args.text.now found.0) c.loop-byte-test.false c.loop-byte.invariant

pub returns-clause-value : goal.returns-clause-value
returns-clause-value c =
    let found = c.in-Some.ensures.lookup.0 in
    value-whole c.args.base c.args.text.now c.args.from c.args.to found.1 (found.2 ∙ slice-part c.args.text.now found.0) c.loop-byte-test.false c.loop-byte.invariant

pub overflow_add-value : goal.overflow_add-value
overflow_add-value c =
    let small : c.digit_value-digit.result ≤ 16 = value-small _ c.digit_value-digit.ensures in
    omega (arith, mul-le-mul_left c.loop-byte.value c.requires.1, c.loop-byte.invariant.small)
