-- `wrong_lengths` meets its contract: the code's test is the definition's.
use Rattle.identifiers.proofs.LawsChoice.{or_is}
use Rattle.server.specs.Server.{wrong_lengths}
use Rattle.server.proofs.serving.wrong_lengths.Goals as goal

pub returns : goal.returns
unfolding wrong_lengths
returns c = simp or_is
