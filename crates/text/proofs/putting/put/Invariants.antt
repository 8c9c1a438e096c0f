-- What each turn of `put` keeps.
use Prim.Native.Nat.{◌+◌}
use lib.ListN.{take}
use Rattle.identifiers.specs.Bytes.{Puts}
use Rattle.text.proofs.putting.put.Given as goal

abbrev pub invariant-loop-i : goal.invariant-loop-i
invariant-loop-i l = Puts l.initial.buffer l.at (take l.i l.text) (l.at + l.i) l.buffer
