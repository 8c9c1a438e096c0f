-- `statuses` meets its contract: the rules say how many are held.
use Rattle.server.proofs.LawsTrailer.{sound-has}
use Rattle.server.proofs.sound.Sound.statuses.Goals as goal

pub shared_ref_as_front-result : goal.shared_ref_as_front-result
shared_ref_as_front-result c = (sound-has _ c.args.self.now.sound).count
