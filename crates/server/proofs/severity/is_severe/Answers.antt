-- `is_severe` meets its contract: the code's test is the definition's.
use Rattle.identifiers.proofs.LawsChoice.{and_is}
use Rattle.server.specs.Faults.{matches}
use Rattle.server.specs.Severity.{severe}
use Rattle.server.proofs.severity.is_severe.Goals as goal

pub returns : goal.returns
unfolding severe matches
returns c = and_is _ _
