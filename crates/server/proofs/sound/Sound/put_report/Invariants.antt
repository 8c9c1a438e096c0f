-- What the loop of `put_report` keeps true: what is put so far is what the codes passed have to report.
use Prim.Native.Nat.{ℕ, ◌+◌, ◌*◌, ◌≤◌}
use lib.ListN.{get_or, length}
use Rattle.identifiers.specs.Below.{list_below}
use Rattle.identifiers.specs.Bytes.{Puts}
use Rattle.server.specs.Faults.{reported}
use Rattle.server.proofs.sound.Sound.put_report.Given as goal

abbrev pub invariant-loop-code : goal.invariant-loop-code
invariant-loop-code l =
    (l.at ≤ l.start + 4 * length l.yielded) × Puts l.initial.response l.start (list_below (λ (m : ℕ). reported l.all l.mask (get_or l.self.record.now.codes m 0) (get_or l.self.record.now.statuses m 0)) (length l.yielded)) l.at l.response
