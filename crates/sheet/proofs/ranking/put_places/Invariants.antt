-- What each turn of `put_places` keeps.
use lib.ListN.{take}
use Rattle.identifiers.specs.Bytes.{Puts}
use Rattle.sheet.specs.Ranked.{lines_at}
use Rattle.sheet.proofs.ranking.put_places.Given as goal

abbrev pub invariant-loop-place : goal.invariant-loop-place
invariant-loop-place l = Puts l.initial.page l.start (lines_at l.input (take l.place-index l.places)) l.at l.page
