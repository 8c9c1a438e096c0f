-- `data_at` meets its contract: the data is a part of the record's bytes.
use mathlib.Core.Path.{◌≡◌, sym}
use Prim.Native.Nat.{ℕ, ◌+◌, ◌*◌, ◌-◌}
use native.Mathlib.Omega.{arith}
use lib.ListN.{get_or}
use Rattle.server.proofs.Demand2Services.{data-is-part}
use Rattle.server.proofs.sound.Sound.data_at.Goals as goal

pub returns : goal.returns
returns c =
    let n : ℕ = get_or c.args.self.now.record.now.lengths c.args.k 0 in
    let long : 32 * c.args.k + n - 32 * c.args.k ≡ n = omega arith in
    rw long (sym (data-is-part c.args.self.now.record.now c.args.k (omega arith) c.requires.0 c.requires.1))
