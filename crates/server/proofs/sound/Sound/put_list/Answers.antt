-- `put_list` meets its contract: three stores, then the report.
use Rattle.identifiers.proofs.LawsBytes.{puts-byte, ◌▸◌}
use Rattle.server.proofs.sound.Sound.put_list.Goals as goal

pub returns : goal.returns
returns c = puts-byte _ 0 0x59 ▸ puts-byte _ 1 _ ▸ puts-byte _ 2 _ ▸ c.put_report.ensures
