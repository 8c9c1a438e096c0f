-- `answer_negatively` meets its contract: silent, or three bytes.
use mathlib.Core.Path.{◌≡◌, refl, sym, ap, ◌∙◌}
use mathlib.Core.Bool.{true, false}
use Rattle.std.specs.Prelude.{Some}
use Rattle.identifiers.specs.Choice.{both}
use Rattle.identifiers.proofs.LawsChoice.{taken, passed, and_is}
use Rattle.server.specs.Codes.{code_number}
use Rattle.server.specs.Silence.{quiet_code}
use Rattle.server.specs.Server.{negative_bytes}
use Rattle.server.proofs.serving.answer_negatively.Goals as goal

pub returns-then-functional-is_quiet : goal.returns-then-functional-is_quiet
returns-then-functional-is_quiet c =
    let quiet : both c.args.functional (quiet_code (code_number c.args.code)) ≡ true = ap (both c.args.functional) (sym c.is_quiet.ensures) ∙ sym (and_is _ _) ∙ c.if-functional-is_quiet.true in
    (taken _ quiet refl, taken _ quiet refl)

pub returns : goal.returns
unfolding negative_bytes
returns c =
    let loud : both c.args.functional (quiet_code (code_number c.args.code)) ≡ false = ap (both c.args.functional) (sym c.is_quiet.ensures) ∙ sym (and_is _ _) ∙ c.if-functional-is_quiet.false in
    (passed _ loud (ap Some c.put_negative.ensures.ends), passed _ loud c.put_negative.ensures.holds)
