-- `name_of` meets its contract: what the calls found is the identifier by its places, with the mark behind three digits or behind eight.
use native.Mathlib.Omega.{arith}
use Rattle.logs.proofs.LawsFound.{some-found, none-found, digits-small}
use Rattle.logs.proofs.LawsScans.{dot-close, not-parted, no-three, no-eight, no_mark, name-three, name-eight}
use Rattle.logs.proofs.scan.name_of.Goals as goal

pub returns-then-not-dot-interface : goal.returns-then-not-dot-interface
returns-then-not-dot-interface c = not-parted c.args.text.now c.requires c.pass-interface.ensures c.pass-gap.ensures c.byte_at.ensures c.if-not-dot-interface.true

pub returns-then-not-good : goal.returns-then-not-good
returns-then-not-good c =
    no-three c.args.text.now c.requires c.pass-interface.ensures c.pass-gap.ensures c.byte_at-2.ensures c.if-byte_at-eq35.true
    (none-found _ _ c.digits_in-good.ensures.said c.if-not-good.true)

pub returns-then-byte_at-eq35 : goal.returns-then-byte_at-eq35
returns-then-byte_at-eq35 c =
    name-three c.args.text.now c.requires c.pass-interface.ensures c.pass-gap.ensures c.byte_at-2.ensures c.byte_at.ensures c.if-not-dot-interface.false
    c.if-byte_at-eq35.true (some-found _ _ c.digits_in-good.ensures.said c.if-not-good.false)

pub returns-then-not-good-2 : goal.returns-then-not-good-2
returns-then-not-good-2 c =
    no-eight c.args.text.now c.requires c.pass-interface.ensures c.pass-gap.ensures c.byte_at-2.ensures c.if-byte_at-eq35.false
    (none-found _ _ c.digits_in-good-2.ensures.said c.if-not-good-2.true)

pub returns-then-byte_at-ne35 : goal.returns-then-byte_at-ne35
returns-then-byte_at-ne35 c =
    no_mark c.args.text.now c.requires c.pass-interface.ensures c.pass-gap.ensures c.byte_at-2.ensures c.byte_at-3.ensures c.if-byte_at-eq35.false c.if-byte_at-ne35.true

pub returns : goal.returns
returns c =
    name-eight c.args.text.now c.requires c.pass-interface.ensures c.pass-gap.ensures c.byte_at-2.ensures c.byte_at.ensures c.if-not-dot-interface.false
    c.byte_at-3.ensures c.if-byte_at-eq35.false c.if-byte_at-ne35.false (some-found _ _ c.digits_in-good-2.ensures.said c.if-not-good-2.false)

pub overflow_cast-result : goal.overflow_cast-result
overflow_cast-result c = omega (arith, digits-small _ _ _ _ (some-found _ _ c.digits_in-good-2.ensures.said c.if-not-good-2.false))

pub overflow_add-dot : goal.overflow_add-dot
overflow_add-dot c = omega (arith, c.requires, dot-close c.args.text.now)

pub overflow_add-dot-2 : goal.overflow_add-dot-2
overflow_add-dot-2 c = omega (arith, c.requires, dot-close c.args.text.now)
