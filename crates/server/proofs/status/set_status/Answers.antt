-- `set_status` meets its contract: of the record only the statuses can change, and they come back.
use mathlib.Core.Path.{ap, ◌∙◌}
use Rattle.server.specs.Trailer.{with_statuses}
use Rattle.server.specs.declared.trailer.TrailerRecord.{TrailerRecord}
use Rattle.server.proofs.LawsStatus.{statuses-alone}
use Rattle.server.proofs.status.set_status.Goals as goal

pub returns : goal.returns
returns c =
    let e = c.set_in-answer.ensures in
    (ap (λ (u : TrailerRecord). with_statuses c.args.record u.statuses) e.0 ∙ statuses-alone _ _ _, e.1)
