-- What each turn of `read_sheet` keeps.
use mathlib.Core.Path.{◌≡◌}
use Prim.Native.Nat.{◌*◌}
use Rattle.std.specs.Prelude.{Ok}
use Rattle.sheet.specs.Sheets.{field_at, first_refused}
use Rattle.sheet.proofs.reader.read_sheet.Given as goal

abbrev pub invariant-loop-number : goal.invariant-loop-number
invariant-loop-number l = first_refused (field_at l.input) (3 * l.number) ≡ Ok tt
