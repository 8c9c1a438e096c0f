-- What each turn of `read_digits` keeps.
use Rattle.text.proofs.LawsReading.{ReadSoFar}
use Rattle.text.proofs.reading.read_digits.Given as goal

abbrev pub invariant-loop-byte : goal.invariant-loop-byte
invariant-loop-byte g l = ReadSoFar g.row.BASE l.text l.number l.byte-index
