-- `put_places` meets its contract: after i turns the lines of the first i places stand in the page.
use mathlib.Core.Path.{sym}
use mathlib.Core.List.{List, map}
use Prim.Native.Nat.{ℕ, ◌<◌, ◌+◌, ◌-◌, ◌*◌, ◌≤◌}
use native.Mathlib.Omega.{arith}
use lib.ListN.{length, length-map, get_or, take}
use lib.Seq.{length-take-le}
use Rattle.identifiers.proofs.LawsBytes.{puts_none, puts-as, keeps-length, ◌▸◌}
use Rattle.sheet.specs.Readings.{readings_in, reading_of}
use Rattle.sheet.proofs.LawsChunks.{one-behind, line-behind}
use Rattle.sheet.proofs.LawsRanked.{lines_none, lines_more, length-lines}
use Rattle.sheet.proofs.ranking.put_places.Goals as goal

-- the reading at the place lies in the input
place-within : (input : List ℕ) (place : ℕ) → place < readings_in input → 17 * place + 17 ≤ length input
unfolding readings_in
place-within input place h = omega (arith, h)

pub loop-place-init : goal.loop-place-init
loop-place-init c = puts-as (puts_none _ _) (sym (lines_none c.args.input.now))

pub put_lines-at-requires : goal.put_lines-at-requires
put_lines-at-requires c =
    let place = get_or c.args.places.now c.loop-place.place-index 0 in
    let p = c.loop-place.invariant in
    let done = take c.loop-place.place-index c.args.places.now in
    let reading = reading_of c.args.input.now in
    let many = length-take-le c.loop-place.place-index c.args.places.now (omega arith) in
    let within = place-within c.args.input.now _ (c.requires.1 c.loop-place.place-index c.loop-place-test.true) in
    omega (arith, p.ends, keeps-length p, length-lines (map reading done), length-map done reading, many, one-behind c.args.input.now place (17 * place + 17 - 17 * place) (omega arith) within)

pub loop-place-preserved : goal.loop-place-preserved
loop-place-preserved c =
    let input = c.args.input.now in
    let places = c.args.places.now in
    let i = c.loop-place.place-index in
    let place = get_or places i 0 in
    let within = place-within input _ (c.requires.1 i c.loop-place-test.true) in
    puts-as (c.loop-place.invariant ▸ puts-as c.put_lines-at.ensures (line-behind input place (17 * place + 17 - 17 * place) (omega arith) within)) (sym (lines_more input places i (omega arith)))
