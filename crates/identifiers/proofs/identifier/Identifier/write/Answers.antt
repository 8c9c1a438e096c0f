-- `Identifier::write` meets its contract: the sum in u32 is the formula.
use mathlib.Core.Path.{sym, ap, ◌∙◌}
use native.Mathlib.Omega.{arith}
use Rattle.std.specs.Prelude.{Ok}
use Rattle.identifiers.specs.Identifiers.{formula}
use Rattle.identifiers.proofs.LawsInverse.{wide-priority, wide-reserved, wide-page, write-16, write-number}
use Rattle.identifiers.proofs.identifier.Identifier.write.Goals as goal

pub returns-then-self-gt7 : goal.returns-then-self-gt7
returns-then-self-gt7 c = sym (write-16 _ (wide-priority c.if-self-gt7.true))

pub returns-then-self-gt1 : goal.returns-then-self-gt1
returns-then-self-gt1 c = sym (write-16 _ (wide-reserved c.if-self-gt1.true))

pub returns-then-self-gt1-2 : goal.returns-then-self-gt1-2
returns-then-self-gt1-2 c = sym (write-16 _ (wide-page c.if-self-gt1-2.true))

pub returns : goal.returns
unfolding formula
returns c =
    ap Ok (omega arith) ∙ sym (write-number c.args.self c.if-self-gt7.false c.if-self-gt1.false c.if-self-gt1-2.false)
