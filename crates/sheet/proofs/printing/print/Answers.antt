-- `print` meets its contract: the header and the lines of an accepted input, or the line of its refusal.
use mathlib.Core.Path.{sym}
use native.Mathlib.Omega.{arith}
use Rattle.identifiers.proofs.LawsBytes.{keeps-length, ◌▸◌}
use Rattle.sheet.specs.Readings.{readings_in}
use Rattle.sheet.proofs.LawsSheets.{accepted-short}
use Rattle.sheet.proofs.LawsEarliest.{refused-small}
use Rattle.sheet.proofs.LawsPrinted.{printed-accepted, printed-refused}
use Rattle.sheet.proofs.printing.print.Goals as goal

pub put_lines-requires : goal.put_lines-requires
unfolding readings_in
put_lines-requires c =
    let header = c.put_header-at.ensures in
    omega (arith, accepted-short _ (sym c.in-Ok.ensures), header.ends, keeps-length header)

pub put_refusal-requires : goal.put_refusal-requires
put_refusal-requires c =
    (refused-small _ _ _ (sym c.in-Err.ensures)).place

pub returns-in-Ok : goal.returns-in-Ok
returns-in-Ok c =
    rw (printed-accepted _ (sym c.in-Ok.ensures)) (c.put_header-at.ensures ▸ c.put_lines.ensures)

pub returns-in-Err : goal.returns-in-Err
returns-in-Err c =
    rw (printed-refused _ _ _ (sym c.in-Err.ensures)) c.put_refusal.ensures
