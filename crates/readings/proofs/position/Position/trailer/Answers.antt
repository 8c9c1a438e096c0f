-- `Position::trailer` meets its contract: position 0 is no trailer's.
use mathlib.Core.Path.{refl}
use borrow.Author.Tests.{eq-eqb, ne_eqb}
use Rattle.identifiers.proofs.LawsChoice.{taken, passed}
use Rattle.readings.specs.Positions.{trailer_at}
use Rattle.readings.proofs.position.Position.trailer.Goals as goal

pub returns-then-place-eq0 : goal.returns-then-place-eq0
unfolding trailer_at
returns-then-place-eq0 c = taken _ (eq-eqb _ _ c.if-place-eq0.true) refl

pub returns : goal.returns
unfolding trailer_at
returns c = passed _ (ne_eqb _ _ c.if-place-eq0.false) c.at.ensures
