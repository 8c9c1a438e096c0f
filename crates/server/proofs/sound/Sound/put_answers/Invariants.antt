-- What the two loops of `put_answers` keep true.
use mathlib.Core.Path.{◌≡◌}
use Prim.Native.Nat.{ℕ}
use lib.Dec.{eqb}
use lib.ListN.{get_or}
use Rattle.identifiers.specs.Below.{list_below, first_below}
use Rattle.identifiers.specs.Bytes.{Puts}
use Rattle.server.specs.DataIdentifiers.{asked_at, answer_to}
use Rattle.server.proofs.sound.Sound.put_answers.Given as goal

abbrev pub invariant-loop-k : goal.invariant-loop-k
invariant-loop-k l = (first_below (λ (m : ℕ). eqb (get_or l.self.record.now.identifiers m 0) l.identifier) l.k ≡ l.k) × ((l.at ≡ l.initial.at) × (l.response ≡ l.initial.response))

abbrev pub invariant-asked : goal.invariant-asked
invariant-asked l = Puts l.initial.response l.start (list_below (λ i. answer_to l.self.record.now (asked_at l.request.bytes.now i)) l.j) l.at l.response
