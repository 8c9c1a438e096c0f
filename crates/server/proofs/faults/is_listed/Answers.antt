-- `is_listed` meets its contract: the code's test is the definition's.
use Rattle.identifiers.proofs.LawsChoice.{or_is}
use Rattle.server.specs.Faults.{matches, listed}
use Rattle.server.proofs.faults.is_listed.Goals as goal

pub returns : goal.returns
unfolding listed matches
returns c = or_is _ _
