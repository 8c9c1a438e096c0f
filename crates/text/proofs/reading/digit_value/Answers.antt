-- `digit_value` meets its contract: the arithmetic gives every byte its value.
use native.Mathlib.Omega.{arith}
use Rattle.text.proofs.LawsValue.{quick-value}
use Rattle.text.proofs.reading.digit_value.Goals as goal

pub returns : goal.returns
returns c = quick-value c.args.byte (omega arith) c.choose.ensures c.choose-2.ensures
