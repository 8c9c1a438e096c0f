-- `asked` meets its contract: two bytes, high first.
use Rattle.server.specs.DataIdentifiers.{asked_at}
use Rattle.server.proofs.data_identifiers.asked.Goals as goal

pub returns : goal.returns
unfolding asked_at
returns c = c.from_be_bytes.ensures
