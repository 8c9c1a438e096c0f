-- `put_millis` meets its contract: the six digits, for which there is room.
use Rattle.text.proofs.LawsPutting.{put-fits}
use Rattle.logs.specs.Written.{millis}
use Rattle.logs.proofs.write.put_millis.Goals as goal

pub returns : goal.returns
unfolding millis
returns c =
    put-fits c.requires.0 c.put.ensures
