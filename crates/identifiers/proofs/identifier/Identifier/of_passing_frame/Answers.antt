-- `Identifier::of_passing_frame` meets its contract: the checks go by how many data bytes there are.
use Rattle.identifiers.proofs.identifier.Identifier.of_passing_frame.Goals as goal

pub returns : goal.returns
returns c = c.frame_passing.ensures
