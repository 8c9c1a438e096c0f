-- `values_from` meets its contract: after i turns the first i values are put, and 16 stands behind them.
use Prim.Native.Nat.{◌≤◌}
use native.Mathlib.Omega.{arith}
use Rattle.logs.proofs.LawsFound.{value-small}
use Rattle.logs.proofs.LawsPairs.{valued-first, valued-more, valued-done}
use Rattle.logs.proofs.parts.values_from.Goals as goal

pub returns-then-text-from : goal.returns-then-text-from
returns-then-text-from c = valued-done (valued-first _ _) (omega arith) (λ l. omega (arith, c.if-text-from.true))

pub loop-i-init : goal.loop-i-init
loop-i-init c = valued-first _ _

pub loop-i-preserved : goal.loop-i-preserved
loop-i-preserved c = valued-more c.loop-i.invariant (omega arith) c.digit_value.ensures

pub returns : goal.returns
returns c = valued-done c.loop-i.invariant (omega arith) (λ l. omega arith)

pub overflow_cast-values : goal.overflow_cast-values
overflow_cast-values c = let small : c.digit_value.result ≤ 16 = value-small _ c.digit_value.ensures in omega arith
