-- `Position::successor` meets its contract: the position of the next number, where there is one.
use mathlib.Core.Path.{ap, ◌∙◌}
use Prim.Native.Nat.{◌+◌}
use native.Mathlib.Omega.{arith}
use Rattle.readings.specs.Positions.{successor_of, position_at}
use Rattle.readings.proofs.LawsPositions.{place-below}
use Rattle.readings.proofs.position.Position.successor.Goals as goal

pub overflow_add-place : goal.overflow_add-place
overflow_add-place c = omega (arith, c.place.ensures, place-below c.args.self)

pub returns : goal.returns
unfolding successor_of
returns c = c.at.ensures ∙ ap (λ place. position_at (place + 1)) c.place.ensures
