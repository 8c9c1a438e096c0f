-- `time_of` meets its contract: what the calls found is the time by its places.
use Prim.Native.Nat.{◌^◌}
use native.Mathlib.Omega.{arith}
use Rattle.logs.proofs.LawsFound.{some-found, none-found, ran-near}
use Rattle.logs.proofs.LawsScans.{no-micros, time-found, time-not}
use Rattle.logs.proofs.scan.time_of.Goals as goal

pub returns-then-not-good : goal.returns-then-not-good
returns-then-not-good c = no-micros c.args.text.now c.decimal_run-seconds.ensures (none-found _ _ c.digits_in-good.ensures.said c.if-not-good.true)

pub returns-then-byte_at-dot : goal.returns-then-byte_at-dot
returns-then-byte_at-dot c =
    time-found c.args.text.now c.decimal_run-seconds.ensures (some-found _ _ c.digits_in-good.ensures.said c.if-not-good.false) c.byte_at.ensures c.byte_at-2.ensures c.byte_at-3.ensures c.if-byte_at-dot.true

pub returns : goal.returns
returns c =
    time-not c.args.text.now c.decimal_run-seconds.ensures (some-found _ _ c.digits_in-good.ensures.said c.if-not-good.false) c.byte_at.ensures c.byte_at-2.ensures c.byte_at-3.ensures c.if-byte_at-dot.false

pub overflow_add-dot : goal.overflow_add-dot
overflow_add-dot c = omega (arith, ran-near c.decimal_run-seconds.ensures (2 ^ 63) (omega arith) (omega arith))

pub overflow_add-dot-2 : goal.overflow_add-dot-2
overflow_add-dot-2 c = omega (arith, ran-near c.decimal_run-seconds.ensures (2 ^ 63) (omega arith) (omega arith))

pub overflow_add-dot-3 : goal.overflow_add-dot-3
overflow_add-dot-3 c = omega (arith, ran-near c.decimal_run-seconds.ensures (2 ^ 63) (omega arith) (omega arith))
