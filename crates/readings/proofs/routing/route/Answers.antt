-- `route` meets its contract: each return is at one of the laws of `route_of`.
use mathlib.Core.Path.{sym, ap, ◌∙◌}
use Rattle.std.specs.Prelude.{Ok, Err}
use Rattle.std.proofs.lemmas.Result.{err_from_is_err_and}
use Rattle.identifiers.proofs.LawsOptions.{none-refused, some-given}
use Rattle.readings.proofs.LawsRoutes.{route-1, route-refused, route-read}
use Rattle.readings.proofs.routing.route.Goals as goal

pub returns-in_err-position : goal.returns-in_err-position
returns-in_err-position c =
    let p = err_from_is_err_and c.from_residual.result c.from_residual.ensures.1 in
    let n = none-refused _ _ _ (sym c.ok_or.ensures.value ∙ c.in_err-position.was) in
    rw (p.1, p.2) (ap Err n.1 ∙ sym (route-1 _ _ _ _ _ (sym c.own_position.ensures ∙ n.0)))

pub returns-in_default : goal.returns-in_default
returns-in_default c =
    let s = some-given _ _ _ (sym c.ok_or.ensures.value ∙ c.in_ok-position.was) in
    sym (route-refused _ _ _ _ _ _ _ (sym c.own_position.ensures ∙ s) (sym c.of_passing_frame-answer.ensures ∙ c.unwrap_err.ensures))

pub returns : goal.returns
returns c =
    let s = some-given _ _ _ (sym c.ok_or.ensures.value ∙ c.in_ok-position.was) in
    ap Ok c.routed_by.ensures ∙ sym (route-read _ _ _ _ _ _ _ (sym c.own_position.ensures ∙ s) (sym c.of_passing_frame-answer.ensures ∙ c.in-Ok.is))
