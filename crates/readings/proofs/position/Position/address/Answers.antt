-- `Position::address` meets its contract: the towing vehicle's address, and the formula, are the table's.
use mathlib.Core.Path.{sym, ◌∙◌}
use Prim.Native.Nat.{◌≤◌}
use native.Mathlib.Omega.{arith}
use Rattle.readings.specs.Positions.{place_of}
use Rattle.readings.proofs.LawsPositions.{place-below}
use Rattle.readings.proofs.LawsFormula.{towing-address, address-formula}
use Rattle.readings.proofs.position.Position.address.Goals as goal

pub returns-then-place-eq0 : goal.returns-then-place-eq0
returns-then-place-eq0 c = sym (towing-address _ (sym c.place-place.ensures ∙ c.if-place-eq0.true))

pub overflow_mul-result : goal.overflow_mul-result
overflow_mul-result c = omega (arith, c.place-place.ensures, place-below c.args.self)

pub overflow_sub-result : goal.overflow_sub-result
overflow_sub-result c = omega (arith, c.place-place.ensures, place-below c.args.self)

pub returns : goal.returns
returns c =
    let self = c.args.self in
    let some : 1 ≤ place_of self = omega (arith, c.place-place.ensures, c.if-place-eq0.false) in
    omega (arith, c.place-place.ensures, address-formula self some)
