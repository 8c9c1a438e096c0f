-- `serve` meets its contract: of the record only the statuses can change, and they come back.
use mathlib.Core.Path.{sym, ap, ◌∙◌}
use Rattle.server.specs.Trailer.{with_statuses}
use Rattle.server.specs.declared.trailer.TrailerRecord.{TrailerRecord}
use Rattle.server.proofs.Demand2.{only-statuses}
use Rattle.server.proofs.serving.serve.Goals as goal

pub returns : goal.returns
returns c =
    let e = c.served_in-reply.ensures in
    (ap (λ (u : TrailerRecord). with_statuses c.args.record u.statuses) e.0 ∙ sym (only-statuses _ _ _ _), e.1)
