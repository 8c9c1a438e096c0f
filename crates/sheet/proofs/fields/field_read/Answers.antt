-- `field_read` meets its contract: behind the head stands the content.
use native.Mathlib.Omega.{arith}
use Rattle.std.proofs.lemmas.Grind.{common_steps}
use Rattle.identifiers.specs.Choice.{pick, either}
use Rattle.sheet.specs.Fields.{tag_of, cut_short, wrong_form, field_read}
use Rattle.sheet.proofs.LawsFields.{content_behind}
use Rattle.sheet.proofs.fields.field_read.Goals as goal

pub returns : goal.returns
unfolding field_read cut_short wrong_form pick either
returns c = let content = content_behind c.args.input.now c.args.at (tag_of c.args.field) in grind (arith, common_steps)

pub returns-then-not-is_sound : goal.returns-then-not-is_sound
unfolding field_read cut_short wrong_form pick either
returns-then-not-is_sound c = let content = content_behind c.args.input.now c.args.at (tag_of c.args.field) in grind (arith, common_steps)
