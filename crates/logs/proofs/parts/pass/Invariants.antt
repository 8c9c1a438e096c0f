-- What the loop of `pass` keeps true.
use mathlib.Core.Path.{◌≡◌}
use Prim.Native.Nat.{◌≤◌, max}
use lib.ListN.{length}
use Rattle.text.specs.Digits.{between}
use Rattle.logs.specs.Parts.{end_of}
use Rattle.logs.proofs.parts.pass.Given as goal

abbrev pub invariant-loop-end : goal.invariant-loop-end
invariant-loop-end l = (l.end ≤ max l.from (length l.text)) × (end_of (between l.low l.high) l.text l.end ≡ end_of (between l.low l.high) l.text l.from)
