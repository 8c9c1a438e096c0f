-- `Position::after` meets its contract: by the vehicle that has the address, to the one after it.
use mathlib.Core.Path.{sym, ap, ◌∙◌}
use Rattle.std.specs.Prelude.{Option}
use Rattle.std.specs.Option.{ok_or}
use Rattle.identifiers.specs.Refusals.{refusal}
use Rattle.readings.specs.declared.position.Position.{Position}
use Rattle.readings.proofs.LawsPositions.{after_none, after-is}
use Rattle.readings.proofs.position.Position.after.Goals as goal

pub returns-in_default : goal.returns-in_default
returns-in_default c = sym (after_none _ (sym c.of_address.ensures ∙ c.in_default.is))

pub returns : goal.returns
returns c = c.ok_or.ensures.value ∙ ap (λ (v : Option Position). ok_or v (refusal 15)) c.successor.ensures ∙ sym (after-is _ _ (sym c.of_address.ensures ∙ c.in-Some.is))
