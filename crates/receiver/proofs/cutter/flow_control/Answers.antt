-- `flow_control` meets its contract: by whether there is a way.
use Rattle.std.proofs.Common.{sym, ◌∙◌}
use Rattle.std.proofs.lemmas.Result.{err_from_is_err_and}
use Rattle.identifiers.proofs.LawsChoice.{passed}
use Rattle.receiver.specs.Cuts.{flow_control_of}
use Rattle.receiver.proofs.LawsPieces.{way-so, way_none-alone}
use Rattle.receiver.proofs.cutter.flow_control.Goals as goal

pub returns-in_err-way : goal.returns-in_err-way
unfolding flow_control_of
returns-in_err-way c =
    let p = err_from_is_err_and c.from_residual.result c.from_residual.ensures.1 in
    rw (p.1, p.2) (way_none-alone c.args.from c.args.to c.args.unit (sym c.between.ensures ∙ c.in_err-way.was) _)

pub returns : goal.returns
unfolding flow_control_of
returns c =
    let s = way-so c.args.from c.args.to c.args.unit (sym c.between.ensures ∙ c.in_ok-way.was) in
    passed _ s.0 (c.frame.ensures ∙ rw c.byte.ensures (sym (s.2 _)))
