-- The one number by which the readings of a mask are put in order.
use Rattle.std.specs.Prelude.{ℕ}
use Rattle.identifiers.specs.Choice.{pick}
use Rattle.sheet.specs.Ranked.{basis_full}
use Rattle.sheet.specs.declared.reading.CountReading.{CountReading}

-- a ranked reading stands at its count, an excluded one behind every count
unfoldable pub standing_of : CountReading → ℕ
standing_of r = pick (basis_full r) r.count 65536
