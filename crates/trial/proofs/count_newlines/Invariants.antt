-- `count_newlines` has counted the lines of the bytes passed.
use mathlib.Core.Path.{◌≡◌}
use lib.ListN.{take}
use Rattle.text.specs.Digits.{newlines}
use Rattle.trial.proofs.count_newlines.Given as goal

abbrev pub invariant-loop-byte : goal.invariant-loop-byte
invariant-loop-byte l = l.lines ≡ newlines (take l.byte-index l.chunk)
