-- `read_parameter` meets its contract: a kind over 7 is refusal 20, and every other has a sound row.
use mathlib.Core.Path.{sym, ◌∙◌}
use Rattle.std.proofs.lemmas.Result.{err_from_is_err_and}
use Rattle.readings.proofs.LawsReadings.{kind-sound, kind-read, kind-unread}
use Rattle.readings.proofs.reading.read_parameter.Goals as goal

pub returns-in_err-kind : goal.returns-in_err-kind
returns-in_err-kind c =
    let p = err_from_is_err_and c.from_residual.result c.from_residual.ensures.1 in
    rw (p.1, p.2) (kind-unread c.args.kind _ c.args.raw (sym c.try_from.ensures ∙ c.in_err-kind.was))

pub measure-requires : goal.measure-requires
measure-requires c = kind-sound c.args.kind _ (sym c.try_from.ensures ∙ c.in_ok-kind.was)

pub returns : goal.returns
returns c = c.measure.ensures ∙ kind-read c.args.kind _ c.args.raw (sym c.try_from.ensures ∙ c.in_ok-kind.was)
