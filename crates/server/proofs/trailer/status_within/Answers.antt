-- `status_within` meets its contract: the code's test is the definition's.
use mathlib.Core.Path.{refl}
use Rattle.server.specs.Trailer.{status_within}
use Rattle.server.proofs.trailer.status_within.Goals as goal

pub returns : goal.returns
unfolding status_within
returns c = refl
