-- `sound_mask` meets its contract: the code's test is the definition's.
use Rattle.server.specs.Mask.{sound_mask}
use Rattle.identifiers.proofs.LawsChoice.{and_is, or_is}
use Rattle.server.proofs.mask.sound_mask.Goals as goal

pub returns : goal.returns
unfolding sound_mask
returns c = simp (and_is, or_is)
