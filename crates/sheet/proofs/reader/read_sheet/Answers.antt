-- `read_sheet` meets its contract: the readings passed are accepted, and the first that is not stops the loop.
use mathlib.Core.Path.{◌≡◌, sym, ◌∙◌}
use Prim.Native.Nat.{◌*◌}
use native.Mathlib.Omega.{arith}
use Rattle.std.proofs.lemmas.Result.{err_from_is_err_and}
use Rattle.sheet.specs.Sheets.{fields_begun}
use Rattle.sheet.proofs.LawsSheets.{first-stays, first-reading, sheet-fields}
use Rattle.sheet.proofs.reader.read_sheet.Goals as goal

pub returns-in_err-reading_read : goal.returns-in_err-reading_read
unfolding fields_begun
returns-in_err-reading_read c =
    let exit = err_from_is_err_and c.from_residual.result c.from_residual.ensures.1 in
    let why = c.in_err-reading_read.field-0.0 in
    let refused = first-reading _ _ c.loop-number.invariant ∙ sym c.reading_read.ensures ∙ c.in_err-reading_read.was in
    rw (exit.1, exit.2) (sym (sheet-fields _ (omega arith) ∙ first-stays _ _ _ why.refusal why.offset (omega arith) refused))

pub loop-number-preserved : goal.loop-number-preserved
loop-number-preserved c = first-reading _ _ c.loop-number.invariant ∙ sym c.reading_read.ensures ∙ c.in_ok-reading_read.was

pub returns : goal.returns
unfolding fields_begun
returns c =
    let all : 3 * c.loop-number.number ≡ fields_begun c.args.input.now = omega arith in
    sym (sheet-fields _ (omega arith) ∙ rw all at c.loop-number.invariant)
