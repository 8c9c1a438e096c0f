-- What the loop of `put_severe` keeps true: what is put so far is what the codes passed have to report.
use Prim.Native.Nat.{ℕ}
use lib.ListN.{get_or}
use Rattle.identifiers.specs.Below.{list_below}
use Rattle.identifiers.specs.Bytes.{Puts}
use Rattle.server.specs.Severity.{severe_at}
use Rattle.server.proofs.severity.put_severe.Given as goal

abbrev pub invariant-loop-i : goal.invariant-loop-i
invariant-loop-i l = Puts l.initial.response l.start (list_below (λ (m : ℕ). severe_at l.masks (get_or l.severities m 0) (get_or l.units m 0) (get_or l.codes m 0) (get_or l.statuses m 0)) l.i) l.at l.response
