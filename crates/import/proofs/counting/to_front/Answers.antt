-- `to_front` meets its contract: the copied bytes are those between the places.
use Rattle.import.proofs.LawsMoved.{moved-front}
use Rattle.import.proofs.counting.to_front.Goals as goal

pub returns : goal.returns
returns c = moved-front c.args.buffer.now c.args.from c.args.to c.requires.0 c.requires.1 c.copy_within.ensures.len c.copy_within.ensures.after
