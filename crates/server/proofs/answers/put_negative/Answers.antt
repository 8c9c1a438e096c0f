-- `put_negative` meets its contract: three stores in a row.
use Rattle.identifiers.proofs.LawsBytes.{puts-byte, ◌▸◌}
use Rattle.server.specs.Server.{negative_bytes}
use Rattle.server.proofs.answers.put_negative.Goals as goal

pub returns : goal.returns
unfolding negative_bytes
returns c = rw (← c.number.ensures) (puts-byte _ 0 _ ▸ puts-byte _ 1 _ ▸ puts-byte _ 2 _)
