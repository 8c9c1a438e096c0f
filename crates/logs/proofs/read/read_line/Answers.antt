-- `read_line` meets its contract: the parts are the whole line, or it is malformed.
use mathlib.Core.Path.{sym, ap, ◌∙◌}
use Rattle.std.specs.Prelude.{Err}
use Rattle.std.proofs.lemmas.Result.{err_from_is_err_and}
use Rattle.identifiers.proofs.LawsOptions.{none-refused, some-given}
use Rattle.logs.proofs.LawsLines.{read-none, read_whole, read-25}
use Rattle.logs.proofs.read.read_line.Goals as goal

pub returns-in_err-found : goal.returns-in_err-found
returns-in_err-found c =
    let p = err_from_is_err_and c.from_residual.result c.from_residual.ensures.1 in
    let n = none-refused _ _ _ (sym c.ok_or.ensures.value ∙ c.in_err-found.was) in
    rw (p.1, p.2) (ap Err n.1 ∙ read-none c.args.line.now (sym n.0 ∙ c.scan.ensures))

pub returns-then-found-line : goal.returns-then-found-line
returns-then-found-line c =
    let s = some-given _ _ _ (sym c.ok_or.ensures.value ∙ c.in_ok-found.was) in
    read_whole c.args.line.now (sym s ∙ c.scan.ensures) c.if-found-line.true

pub returns : goal.returns
returns c =
    let s = some-given _ _ _ (sym c.ok_or.ensures.value ∙ c.in_ok-found.was) in
    read-25 c.args.line.now (sym s ∙ c.scan.ensures) c.if-found-line.false
