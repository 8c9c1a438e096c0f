-- `put` meets its contract: a copy over the part that it writes.
use mathlib.Core.Path.{refl}
use native.Mathlib.Omega.{arith}
use Rattle.identifiers.proofs.LawsBytes.{part-written}
use Rattle.server.proofs.faults.put.Goals as goal

pub returns : goal.returns
returns c = record { ends = refl; holds = part-written _ _ _ _ _ c.requires (omega arith) c.copy_from_slice.ensures.after }
