-- `count_where` meets its contract: one more where the place has it.
use mathlib.Core.Path.{sym, ap, ◌∙◌}
use Prim.Native.Nat.{ℕ, ◌+◌}
use native.Mathlib.Omega.{arith}
use Rattle.identifiers.proofs.LawsBelow.{count_none, count-hit, count-miss}
use Rattle.server.proofs.places.count_where.Goals as goal
use Rattle.server.proofs.places.count_where.Goals.{then-has, else-has}

pub loop-i-init : goal.loop-i-init
loop-i-init g c = (omega arith, λ p h. sym (count_none p))

pub loop-i-preserved : goal.loop-i-preserved
loop-i-preserved g c =
    let l = c.loop-i in
    elim c.if-has.branch [
      | then-has w ↦
          (omega (arith, w.count-is), λ p h. w.count-is ∙ ap (λ (x : ℕ). x + 1) (l.invariant.1 p h) ∙ sym (count-hit p _ (sym (h l.i c.has.result (omega arith) c.has.ensures) ∙ w.if-has.true)))
      | else-has w ↦
          (omega (arith, w.count-is), λ p h. w.count-is ∙ l.invariant.1 p h ∙ sym (count-miss p _ (sym (h l.i c.has.result (omega arith) c.has.ensures) ∙ w.if-has.false)))
    ]
