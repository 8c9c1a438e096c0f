-- `put_count` meets its contract: four stores, then the count.
use mathlib.Core.Path.{ap}
use mathlib.Core.Bool.{false}
use mathlib.Core.List.{◌∷◌}
use Prim.Native.Nat.{ℕ}
use native.Mathlib.Omega.{arith}
use Rattle.identifiers.proofs.LawsBytes.{puts-byte, ◌▸◌, puts-as}
use Rattle.server.proofs.LawsTrailer.{sound-has}
use Rattle.server.proofs.LawsFaults.{counted, count-listed-le}
use Rattle.server.specs.Faults.{two_bytes}
use Rattle.server.proofs.sound.Sound.put_count.Goals as goal

pub count_listed-n-requires : goal.count_listed-n-requires
count_listed-n-requires c = omega (arith, (sound-has _ c.args.self.now.sound).count, c.statuses.ensures.1)

pub overflow_cast-n : goal.overflow_cast-n
overflow_cast-n c =
    omega (arith, (sound-has _ c.args.self.now.sound).count, counted c.args.self.now.record.now false c.args.mask c.statuses.ensures c.count_listed-n.ensures, count-listed-le c.args.self.now.record.now false c.args.mask)

pub returns : goal.returns
returns c =
    puts-as (puts-byte _ 0 0x59 ▸ puts-byte _ 1 0x01 ▸ puts-byte _ 2 _ ▸ puts-byte _ 3 0x03 ▸ c.put_two.ensures)
    (ap (λ (n : ℕ). 0x59 ∷ 0x01 ∷ c.args.self.now.record.now.availability ∷ 0x03 ∷ two_bytes n) (counted c.args.self.now.record.now false c.args.mask c.statuses.ensures c.count_listed-n.ensures))
