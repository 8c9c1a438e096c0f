-- `put_code_and_status` meets its contract: four stores in a row.
use Rattle.identifiers.proofs.LawsBytes.{puts-byte, ◌▸◌}
use Rattle.server.specs.Faults.{code_and_status}
use Rattle.server.proofs.faults.put_code_and_status.Goals as goal

pub returns : goal.returns
unfolding code_and_status
returns c = rw c.to_be_bytes-bytes.ensures (puts-byte _ _ _ ▸ puts-byte _ _ _ ▸ puts-byte _ _ _ ▸ puts-byte _ _ _)
