-- `check` meets its contract: by the one test.
use mathlib.Core.Path.{refl, sym, ◌∙◌}
use Rattle.identifiers.proofs.LawsChoice.{taken, passed}
use Rattle.server.specs.Trailer.{checked_as}
use Rattle.server.proofs.trailer.check.Goals as goal

pub returns-then-is_sound : goal.returns-then-is_sound
unfolding checked_as
returns-then-is_sound c = taken _ (sym c.is_sound.ensures ∙ c.if-is_sound.true) refl

pub returns : goal.returns
unfolding checked_as
returns c = passed _ (sym c.is_sound.ensures ∙ c.if-is_sound.false) refl
