-- What the loop of `put_hexes` keeps true.
use lib.ListN.{take}
use Rattle.identifiers.specs.Bytes.{Puts}
use Rattle.logs.specs.Written.{hexes}
use Rattle.logs.proofs.write.put_hexes.Given as goal

abbrev pub invariant-loop-byte : goal.invariant-loop-byte
invariant-loop-byte l = Puts l.initial.text l.start (hexes (take l.byte-index l.bytes)) l.at l.text
