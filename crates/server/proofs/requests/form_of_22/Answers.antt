-- `form_of_22` meets its contract: the length decides.
use mathlib.Core.Path.{ap, ◌∙◌}
use mathlib.Core.Bool.{Bool}
use Rattle.identifiers.proofs.LawsChoice.{and_is}
use Rattle.server.specs.Requests.{sized, form_of_22}
use Rattle.server.specs.declared.requests.Request.{Request}
use Rattle.server.proofs.requests.form_of_22.Goals as goal

pub returns : goal.returns
unfolding form_of_22
returns c = c.sized.ensures ∙ ap (λ (b : Bool). sized b Request.ReadData) (and_is _ _)
