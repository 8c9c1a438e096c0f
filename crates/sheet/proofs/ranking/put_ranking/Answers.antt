-- `put_ranking` meets its contract: behind the header, the places found, put in order, are the ranked ones and then the excluded ones.
use mathlib.Core.Path.{sym, ap, ◌∙◌}
use native.Mathlib.Omega.{arith}
use Prim.Native.Nat.{◌≤◌}
use lib.ListN.{length, length-append, drop}
use lib.Seq.{length-take-le, take_at}
use Rattle.identifiers.proofs.LawsBytes.{puts-as, keeps-length, ◌▸◌}
use Rattle.order.proofs.LawsEach.{each-get}
use Rattle.sheet.specs.Ranked.{lines_at}
use Rattle.sheet.proofs.LawsStanding.{count_small}
use Rattle.sheet.proofs.LawsGathered.{found-few, sorted-page, sorted-below}
use Rattle.sheet.proofs.ranking.put_ranking.Goals as goal

pub slice_bounds-places-end : goal.slice_bounds-places-end
slice_bounds-places-end c = omega (arith, found-few _ _ c.gather-found.ensures.puts, c.gather-found.auto.places)

pub slice_bounds-sort-end-2 : goal.slice_bounds-sort-end-2
slice_bounds-sort-end-2 c =
    let within : c.gather-found.result ≤ length c.gather-found.new.places = omega (arith, found-few _ _ c.gather-found.ensures.puts, c.gather-found.auto.places) in
    sym (length-take-le _ _ within)

pub slice_bounds-places-end-2 : goal.slice_bounds-places-end-2
slice_bounds-places-end-2 c =
    let within : c.gather-found.result ≤ length c.gather-found.new.places = omega (arith, found-few _ _ c.gather-found.ensures.puts, c.gather-found.auto.places) in
    rw length-append (omega (arith, c.sort.auto.places, length-take-le _ _ within))

pub slice_bounds-put_places-end : goal.slice_bounds-put_places-end
slice_bounds-put_places-end c =
    let within : c.gather-found.result ≤ length c.gather-found.new.places = omega (arith, found-few _ _ c.gather-found.ensures.puts, c.gather-found.auto.places) in
    let many = c.sort.auto.places ∙ length-take-le _ _ within in
    sym (ap length (take_at _ _ _ many) ∙ many)

pub put_places-requires : goal.put_places-requires
put_places-requires c =
    let header = c.put_header-start.ensures in
    let found = c.gather-found.ensures.puts in
    let within : c.gather-found.result ≤ length c.gather-found.new.places = omega (arith, found-few _ _ found, c.gather-found.auto.places) in
    let many = c.sort.auto.places ∙ length-take-le _ _ within in
    let sorted = c.sort.ensures in
    let lent = ap length (take_at c.sort.new.places (drop c.gather-found.result c.gather-found.new.places) _ many) ∙ many in
    let below = sorted-below _ _ found c.gather-found.new.standings c.requires.0 (omega arith) in (
      omega (arith, lent, found-few _ _ found, header.ends, keeps-length header, c.requires.1),
      λ i l. rw (take_at c.sort.new.places _ _ many, sorted) (each-get i 0 below (omega (arith, l, lent, many, ap length sorted))),
    )

pub returns : goal.returns
returns c =
    let input = c.args.input.now in
    let within : c.gather-found.result ≤ length c.gather-found.new.places = omega (arith, found-few _ _ c.gather-found.ensures.puts, c.gather-found.auto.places) in
    let many = c.sort.auto.places ∙ length-take-le _ _ within in
    let small = count_small input (λ i. (c.type_inv.input i).fits) in
    let page = sorted-page _ _ c.gather-found.ensures.puts c.gather-found.new.standings c.requires.0 (omega arith) c.gather-found.ensures.by_index small in
    c.put_header-start.ensures ▸ puts-as c.put_places.ensures (ap (lines_at input) (take_at _ _ _ many ∙ c.sort.ensures ∙ page))
