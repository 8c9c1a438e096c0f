-- `Position::predecessor` meets its contract: the position of the number before, where there is one.
use mathlib.Core.Path.{sym, ap, ◌∙◌}
use Prim.Native.Nat.{◌-◌}
use native.Mathlib.Omega.{arith}
use Rattle.readings.specs.Positions.{position_at}
use Rattle.readings.proofs.LawsPositions.{first-predecessor, next-predecessor}
use Rattle.readings.proofs.position.Position.predecessor.Goals as goal

pub returns-in_err-before : goal.returns-in_err-before
returns-in_err-before c = c.from_residual.ensures ∙ sym (first-predecessor _ (omega (arith, c.place.ensures, c.in_err-before.ensures)))

pub returns : goal.returns
returns c =
    let e = c.in_ok-before.ensures in
    c.at.ensures ∙ ap position_at (e.1 ∙ ap (λ n. n - 1) c.place.ensures) ∙ sym (next-predecessor _ (omega (arith, c.place.ensures, e.0)))
