-- `comes_from` meets its contract: by the side.
use Rattle.identifiers.proofs.LawsChoice.{and_is}
use Rattle.readings.specs.Routes.{comes_from}
use Rattle.readings.proofs.routing.comes_from.Goals as goal

pub returns-in-Predecessor : goal.returns-in-Predecessor
unfolding comes_from
returns-in-Predecessor c = rw c.in-Predecessor.is

pub returns-in-Successor : goal.returns-in-Successor
unfolding comes_from
returns-in-Successor c = rw c.in-Successor.is (and_is _ _)
