-- `put_identifier_and_data` meets its contract: one run of bytes after the other.
use mathlib.Core.Path.{ap}
use native.Mathlib.Omega.{arith}
use lib.ListN.{length}
use Rattle.identifiers.proofs.LawsBytes.{keeps-length, ◌▸◌, puts-as}
use Rattle.server.specs.Faults.{two_bytes}
use Rattle.server.specs.DataIdentifiers.{identifier_and_data}
use Rattle.server.proofs.LawsDataIdentifiers.{length-data}
use Rattle.server.proofs.sound.Sound.put_identifier_and_data.Goals as goal

pub put-requires : goal.put-requires
unfolding two_bytes
put-requires c =
    let p = c.put_two-at.ensures in
    omega (arith, p.ends, keeps-length p, ap length c.data_at.ensures, length-data c.args.self.now.record.now c.args.k)

pub returns : goal.returns
unfolding identifier_and_data
returns c = c.put_two-at.ensures ▸ puts-as c.put.ensures c.data_at.ensures
