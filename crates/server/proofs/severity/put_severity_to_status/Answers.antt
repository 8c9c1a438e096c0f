-- `put_severity_to_status` meets its contract: one run of bytes after the other.
use native.Mathlib.Omega.{arith}
use Rattle.identifiers.proofs.LawsBytes.{keeps-length, ◌▸◌}
use Rattle.server.specs.Severity.{severity_to_status}
use Rattle.server.proofs.severity.put_severity_to_status.Goals as goal

pub put_code_and_status-requires : goal.put_code_and_status-requires
put_code_and_status-requires c = omega (arith, c.put-next.ensures.ends, keeps-length c.put-next.ensures)

pub returns : goal.returns
unfolding severity_to_status
returns c = c.put-next.ensures ▸ c.put_code_and_status.ensures
