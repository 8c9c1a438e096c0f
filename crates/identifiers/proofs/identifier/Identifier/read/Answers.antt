-- `Identifier::read` meets its contract: a number alone is read as that of a frame without data.
use Rattle.identifiers.specs.Identifiers.{read_of}
use Rattle.identifiers.proofs.identifier.Identifier.read.Goals as goal

pub returns : goal.returns
unfolding read_of
returns c = c.frame_passing.ensures
