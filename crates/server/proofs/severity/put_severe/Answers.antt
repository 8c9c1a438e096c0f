-- `put_severe` meets its contract: what is put so far is what the codes passed have to report.
use mathlib.Core.Path.{sym, ap, ◌∙◌}
use lib.ListN.{length}
use Rattle.identifiers.proofs.LawsBelow.{list-none}
use Rattle.identifiers.proofs.LawsBytes.{puts_none, turn, turn-none}
use Rattle.server.proofs.LawsSeverity.{severe-hit, severe-miss, six, severe-fits}
use Rattle.server.proofs.severity.put_severe.Goals as goal
use Rattle.server.proofs.severity.put_severe.Goals.{then-is_severe, else-is_severe}

pub loop-i-init : goal.loop-i-init
loop-i-init c = rw (list-none _) (puts_none _ _)

pub put_severity_to_status-at-requires : goal.put_severity_to_status-at-requires
put_severity_to_status-at-requires c =
    severe-fits _ _ _ _ (ap length (sym (severe-hit _ _ _ _ _ (sym c.is_severe.ensures ∙ c.if-is_severe.true))) ∙ six _ _ _ _) c.loop-i-test.true c.loop-i.invariant c.requires.1

pub loop-i-preserved : goal.loop-i-preserved
loop-i-preserved c =
    let l = c.loop-i in
    elim c.if-is_severe.branch [
      | then-is_severe w ↦ (rw (w.at-is, w.response-is) (turn _ _ l.invariant (severe-hit _ _ _ _ _ (sym c.is_severe.ensures ∙ w.if-is_severe.true)) w.put_severity_to_status-at.ensures))
      | else-is_severe w ↦ (rw (w.at-is, w.response-is) (turn-none _ _ l.invariant (severe-miss _ _ _ _ _ (sym c.is_severe.ensures ∙ w.if-is_severe.false))))
    ]
