-- `names` meets its contract: by what PS is.
use Rattle.identifiers.proofs.LawsChoice.{or_is}
use Rattle.readings.specs.Routes.{named}
use Rattle.readings.proofs.routing.names.Goals as goal

pub returns-in-Destination : goal.returns-in-Destination
unfolding named
returns-in-Destination c = rw c.in-Destination.is (or_is _ _)

pub returns-in-GroupExtension : goal.returns-in-GroupExtension
unfolding named
returns-in-GroupExtension c = rw c.in-GroupExtension.is
