-- After i turns of `store_each` the first i bytes are in.
use Rattle.std.proofs.Common.{◌+◌, take}
use Rattle.identifiers.specs.Bytes.{Puts}
use Rattle.receiver.proofs.bytes.store_each.Given as goal

abbrev pub invariant-loop-i : goal.invariant-loop-i
invariant-loop-i l = Puts l.fn.buffer l.at (take l.i l.bytes) (l.at + l.i) l.buffer
