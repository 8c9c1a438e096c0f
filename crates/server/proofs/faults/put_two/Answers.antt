-- `put_two` meets its contract: the two bytes are those of the definition.
use Rattle.identifiers.proofs.LawsBytes.{puts-as}
use Rattle.server.specs.Faults.{two_bytes}
use Rattle.server.proofs.faults.put_two.Goals as goal

pub returns : goal.returns
unfolding two_bytes
returns c = puts-as c.put.ensures c.to_be_bytes.ensures
