-- `put_decimal` meets its contract: with the digits of the rest in front of those that stand already, all stand.
use native.Mathlib.Omega.{arith}
use Rattle.text.proofs.LawsDigits.{length_some}
use Rattle.text.proofs.LawsPutting.{puts-fitting, puts_nothing, to-put-more, to-put-first, to-put-done}
use Rattle.text.proofs.putting.put_decimal.Goals as goal

pub returns-in_default : goal.returns-in_default
returns-in_default c = let none = c.in_default.ensures in puts_nothing _ _ _ (rw c.places_of.ensures at none)

pub loop-place-preserved : goal.loop-place-preserved
loop-place-preserved c = to-put-more c.loop-place.invariant _ (omega arith) (omega arith)

pub overflow_cast-buffer-2 : goal.overflow_cast-buffer-2
overflow_cast-buffer-2 c = omega (arith, to-put-first c.loop-place.invariant (omega arith))

pub overflow_add-buffer-2 : goal.overflow_add-buffer-2
overflow_add-buffer-2 c = omega (arith, to-put-first c.loop-place.invariant (omega arith))

pub bounds-buffer-at : goal.bounds-buffer-at
bounds-buffer-at c = omega (arith, length_some c.args.number)

pub returns : goal.returns
returns c =
    let some = c.in-Some.ensures in
    let places = c.places_of.ensures in
    puts-fitting (omega arith) (record { ends = omega arith; holds = to-put-done c.loop-place.invariant (omega arith) })
