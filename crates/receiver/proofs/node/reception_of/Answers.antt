-- `reception_of` meets its contract: three numbers in a row.
use Rattle.std.proofs.Common.{sym, arith}
use Rattle.receiver.proofs.LawsRow.{reception-in}
use Rattle.receiver.proofs.node.reception_of.Goals as goal

pub returns : goal.returns
returns c = sym (reception-in c.args.node.now (omega arith) c.args.p c.requires)
