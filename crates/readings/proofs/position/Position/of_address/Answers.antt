-- `Position::of_address` meets its contract: what is neither 235 nor below 209 by one to five steps of 8 is no vehicle's.
use mathlib.Core.Path.{◌≡◌, sym, ap, ◌∙◌}
use Prim.Native.Nat.{◌+◌, ◌-◌, ◌*◌, ◌/◌, ◌≤◌, ◌<◌}
use native.Mathlib.Omega.{arith}
use Rattle.readings.specs.declared.position.Position.TheVariants.{Five}
use Rattle.readings.specs.Positions.{position_of}
use Rattle.readings.proofs.LawsFormula.{address-formula, towing-reads, formula-reads, others-none}
use Rattle.readings.proofs.position.Position.of_address.Goals as goal

pub returns-then-address-eq-TOWING : goal.returns-then-address-eq-TOWING
returns-then-address-eq-TOWING c = sym (ap position_of c.if-address-eq-TOWING.true ∙ towing-reads)

pub returns-then-address : goal.returns-then-address
returns-then-address c =
    let a = c.args.address in
    sym (others-none a c.if-address-eq-TOWING.false (λ n (some : 1 ≤ n) (most : n ≤ 5) (e : a + 8 * n ≡ 209). omega (arith, c.if-address.true)))

pub returns-then-address-2 : goal.returns-then-address-2
returns-then-address-2 c =
    let a = c.args.address in
    let under : a < 169 = omega (arith, c.if-address-2.true, c.address.ensures, address-formula Five (omega arith)) in
    sym (others-none a c.if-address-eq-TOWING.false (λ n (some : 1 ≤ n) (most : n ≤ 5) (e : a + 8 * n ≡ 209). omega arith))

pub returns-then-below-ne0 : goal.returns-then-below-ne0
returns-then-below-ne0 c =
    let a = c.args.address in
    sym (others-none a c.if-address-eq-TOWING.false (λ n (some : 1 ≤ n) (most : n ≤ 5) (e : a + 8 * n ≡ 209). omega (arith, c.if-below-ne0.true)))

pub returns : goal.returns
returns c =
    let a = c.args.address in
    let low : a ≤ 201 = omega (arith, c.if-address.false) in
    let whole : a + 8 * ((209 - a) / 8) ≡ 209 = omega (arith, c.if-below-ne0.false) in
    c.at.ensures ∙ sym (formula-reads a _ (omega arith) whole)

pub overflow_sub-below : goal.overflow_sub-below
overflow_sub-below c = omega (arith, c.if-address.false)
