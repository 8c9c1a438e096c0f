-- `store` meets its contract: the part of the buffer is the bytes.
use Rattle.std.proofs.Common.{arith}
use Rattle.identifiers.proofs.LawsBytes.{part-written}
use Rattle.receiver.proofs.bytes.store.Goals as goal

pub returns : goal.returns
returns c = part-written _ _ _ _ _ c.requires (omega arith) c.copy_from_slice.ensures.after
