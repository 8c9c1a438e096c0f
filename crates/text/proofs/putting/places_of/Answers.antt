-- `places_of` meets its contract: the places counted and those of the rest are together the number's.
use native.Mathlib.Omega.{arith}
use Rattle.text.proofs.LawsDigits.{length-decimal, length-one, length_more}
use Rattle.text.proofs.putting.places_of.Goals as goal

pub loop-rest-init : goal.loop-rest-init
loop-rest-init c = omega arith

pub overflow_add-places : goal.overflow_add-places
overflow_add-places c = omega (arith, length-decimal 20 c.args.number (omega arith) (omega arith))

pub loop-rest-preserved : goal.loop-rest-preserved
loop-rest-preserved c = omega (arith, length_more c.loop-rest.rest c.loop-rest-test.true)

pub returns : goal.returns
returns c = omega (arith, length-one c.loop-rest.rest (omega arith))
