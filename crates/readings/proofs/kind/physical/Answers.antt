-- `physical` meets its contract: each of the three numbers is a whole number of fewer than 24 digits, so nothing is rounded.
use native.Mathlib.Omega.{arith}
use Rattle.readings.proofs.LawsFractions.{physical-is}
use Rattle.readings.proofs.kind.physical.Goals as goal

pub returns : goal.returns
returns c =
    physical-is _ _ _ (omega arith) c.requires (omega arith)
