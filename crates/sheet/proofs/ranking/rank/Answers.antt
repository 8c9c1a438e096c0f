-- `rank` meets its contract: the page of an accepted input, or the line of its refusal.
use mathlib.Core.Path.{sym}
use native.Mathlib.Omega.{arith}
use Rattle.sheet.specs.Readings.{readings_in}
use Rattle.sheet.proofs.LawsSheets.{accepted-short}
use Rattle.sheet.proofs.LawsEarliest.{refused-small}
use Rattle.sheet.proofs.LawsRanked.{ranked-accepted, ranked-refused}
use Rattle.sheet.proofs.ranking.rank.Goals as goal

pub put_ranking-requires : goal.put_ranking-requires
unfolding readings_in
put_ranking-requires c =
    let short = accepted-short _ (sym c.in-Ok.ensures) in
    (omega (arith, short), omega (arith, short))

pub put_refusal-requires : goal.put_refusal-requires
put_refusal-requires c =
    (refused-small _ _ _ (sym c.in-Err.ensures)).place

pub returns-in-Ok : goal.returns-in-Ok
returns-in-Ok c =
    rw (ranked-accepted _ _ (sym c.in-Ok.ensures)) c.put_ranking.ensures

pub returns-in-Err : goal.returns-in-Err
returns-in-Err c =
    rw (ranked-refused _ _ _ _ (sym c.in-Err.ensures)) c.put_refusal.ensures
