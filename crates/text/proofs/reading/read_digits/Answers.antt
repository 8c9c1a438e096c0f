-- `read_digits` meets its contract: what the text says is what the digits to come say behind the number read so far.
use mathlib.Core.Path.{◌≡◌, ◌∙◌}
use Prim.Native.Nat.{◌+◌, ◌*◌}
use native.Mathlib.Omega.{arith}
use Rattle.text.proofs.LawsReading.{reading-more, reading-stop, reading-large, reading-done, other_length, converted, not_converted}
use Rattle.text.proofs.reading.read_digits.Goals as goal

pub returns-then-text-places : goal.returns-then-text-places
returns-then-text-places g c = other_length _ _ _ c.if-text-places.true

pub returns-then-digit : goal.returns-then-digit
returns-then-digit g c = reading-stop c.loop-byte.invariant c.loop-byte-test.true c.digit_value-digit.ensures _ c.if-digit.true

pub returns-in_err-number : goal.returns-in_err-number
returns-in_err-number g c =
    let r = reading-more c.loop-byte.invariant c.loop-byte-test.true c.digit_value-digit.ensures c.if-digit.false in
    let large = not_converted _ _ _ c.try_from.ensures c.ok.ensures.value c.in_err-number.was in
    c.from_residual.ensures ∙ reading-large r _ (omega arith) (omega arith)

pub loop-byte-preserved : goal.loop-byte-preserved
loop-byte-preserved g c =
    let is = converted _ _ _ c.try_from.ensures c.ok.ensures.value c.in_ok-number.was in
    let next : c.in_ok-number.number ≡ c.loop-byte.number * g.row.BASE + c.digit_value-digit.result = omega (arith, is) in
    rw next (reading-more c.loop-byte.invariant c.loop-byte-test.true c.digit_value-digit.ensures c.if-digit.false)

pub returns : goal.returns
returns g c = reading-done c.loop-byte.invariant _ c.if-text-places.false c.loop-byte-test.false (omega arith)
