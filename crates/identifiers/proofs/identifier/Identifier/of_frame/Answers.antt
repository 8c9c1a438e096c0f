-- `Identifier::of_frame` meets its contract: what passes is read unless R is set, and what is refused stays so.
use mathlib.Core.Path.{sym, ◌∙◌}
use Rattle.std.proofs.lemmas.Result.{err_from_is_err_and}
use Rattle.identifiers.proofs.LawsIdentifiers.{read-refused, read-4, read-fields}
use Rattle.identifiers.proofs.identifier.Identifier.of_frame.Goals as goal

pub returns-in_err-fields : goal.returns-in_err-fields
returns-in_err-fields c =
    let p = err_from_is_err_and c.from_residual.result c.from_residual.ensures.1 in
    rw (p.1, p.2) (sym (read-refused _ _ _ (sym c.frame_passing.ensures ∙ c.in_err-fields.was)))

pub returns-then-fields-eq1 : goal.returns-then-fields-eq1
returns-then-fields-eq1 c =
    sym (read-4 _ _ _ (sym c.frame_passing.ensures ∙ c.in_ok-fields.was) c.if-fields-eq1.true)

pub returns : goal.returns
returns c =
    sym (read-fields _ _ _ (sym c.frame_passing.ensures ∙ c.in_ok-fields.was) c.if-fields-eq1.false)
