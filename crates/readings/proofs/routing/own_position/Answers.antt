-- `own_position` meets its contract: 5 with a successor is none, and else the trailer's position.
use mathlib.Core.Path.{refl, sym, ◌∙◌}
use Rattle.identifiers.proofs.LawsChoice.{taken, passed, and_is}
use Rattle.readings.specs.Routes.{own_position}
use Rattle.readings.proofs.routing.own_position.Goals as goal

pub returns-then-own-successor : goal.returns-then-own-successor
unfolding own_position
returns-then-own-successor c = taken _ (sym (and_is _ _) ∙ c.if-own-successor.true) refl

pub returns : goal.returns
unfolding own_position
returns c = passed _ (sym (and_is _ _) ∙ c.if-own-successor.false) c.trailer.ensures
