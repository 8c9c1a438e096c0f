-- What the loop of `answers_length` keeps true: the total so far is the length of what is answered to those passed.
use mathlib.Core.Path.{◌≡◌}
use Prim.Native.Nat.{◌*◌, ◌≤◌}
use lib.ListN.{length}
use Rattle.identifiers.specs.Below.{list_below}
use Rattle.server.specs.DataIdentifiers.{asked_at, answer_to}
use Rattle.server.proofs.sound.Sound.answers_length.Given as goal

abbrev pub invariant-loop-j : goal.invariant-loop-j
invariant-loop-j l = (l.total ≤ 257 * l.j) × (l.total ≡ length (list_below (λ i. answer_to l.self.record.now (asked_at l.request.bytes.now i)) l.j))
