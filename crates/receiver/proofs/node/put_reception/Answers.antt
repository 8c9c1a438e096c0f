-- `put_reception` meets its contract: three numbers stored in a row.
use Rattle.std.proofs.Common.{◌∙◌, arith}
use Rattle.identifiers.proofs.LawsBytes.{puts-byte, ◌▸◌}
use Rattle.receiver.proofs.LawsRow.{stored-in}
use Rattle.receiver.proofs.node.put_reception.Goals as goal

pub returns : goal.returns
returns c =
    (puts-byte _ _ _ ▸ puts-byte _ _ _ ▸ puts-byte _ _ _).holds ∙ stored-in c.args.node.now (omega arith) c.args.p c.requires c.args.reception
