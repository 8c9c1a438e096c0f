-- `sized` meets its contract: by the one test.
use mathlib.Core.Path.{refl}
use Rattle.identifiers.proofs.LawsChoice.{taken, passed}
use Rattle.server.specs.Requests.{sized}
use Rattle.server.proofs.requests.sized.Goals as goal

pub returns-then-right : goal.returns-then-right
unfolding sized
returns-then-right c = taken _ c.if-right.true refl

pub returns : goal.returns
unfolding sized
returns c = passed _ c.if-right.false refl
