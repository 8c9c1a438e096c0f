-- `whole` meets its contract: both numbers are below 2 ^ 16, so their difference fits.
use native.Mathlib.Omega.{arith}
use mir.Syntax.{w32}
use Rattle.readings.proofs.LawsWholes.{difference-fits, difference-read}
use Rattle.readings.proofs.kind.whole.Goals as goal

pub overflow_sub-result : goal.overflow_sub-result
overflow_sub-result c = difference-fits w32 c.args.raw c.args.base (omega arith) (omega arith)

pub returns : goal.returns
returns c = difference-read w32 c.args.raw c.args.base (omega arith) (omega arith)
