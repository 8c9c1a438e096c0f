-- `put_number` meets its contract: its digits in a row, each where there is room for it and for those behind it, and a blank.
use mathlib.Core.Path.{sym}
use native.Mathlib.Omega.{arith}
use lib.ListN.{length-set}
use Rattle.identifiers.proofs.LawsBytes.{puts-as, puts-byte, ◌▸◌}
use Rattle.text.proofs.LawsPutting.{put-fits}
use Rattle.sheet.proofs.LawsLeading.{room-leading, five-digits}
use Rattle.sheet.proofs.line.put_number.Goals as goal

pub put_leading-hundreds-requires : goal.put_leading-hundreds-requires
put_leading-hundreds-requires c =
    let room = room-leading 5 _ c.requires c.put_leading-thousands.ensures in
    omega (arith, room)

pub put_leading-tens-requires : goal.put_leading-tens-requires
put_leading-tens-requires c =
    let room = room-leading 4 _ (room-leading 5 _ c.requires c.put_leading-thousands.ensures) c.put_leading-hundreds.ensures in
    omega (arith, room)

pub put_leading-last-requires : goal.put_leading-last-requires
put_leading-last-requires c =
    let room = room-leading 3 _ (room-leading 4 _ (room-leading 5 _ c.requires c.put_leading-thousands.ensures) c.put_leading-hundreds.ensures) c.put_leading-tens.ensures in
    omega (arith, room)

pub bounds-page-last : goal.bounds-page-last
bounds-page-last c =
    let room = room-leading 2 _ (room-leading 3 _ (room-leading 4 _ (room-leading 5 _ c.requires c.put_leading-thousands.ensures) c.put_leading-hundreds.ensures) c.put_leading-tens.ensures) c.put_leading-last.ensures in
    omega (arith, room)

pub overflow_add-last : goal.overflow_add-last
overflow_add-last c =
    let room = room-leading 2 _ (room-leading 3 _ (room-leading 4 _ (room-leading 5 _ c.requires c.put_leading-thousands.ensures) c.put_leading-hundreds.ensures) c.put_leading-tens.ensures) c.put_leading-last.ensures in
    omega (arith, room)

pub returns : goal.returns
returns c =
    let p1 = c.put_leading-thousands.ensures in
    let p2 = c.put_leading-hundreds.ensures in
    let p3 = c.put_leading-tens.ensures in
    let p4 = c.put_leading-last.ensures in
    let room = room-leading 2 _ (room-leading 3 _ (room-leading 4 _ (room-leading 5 _ c.requires p1) p2) p3) p4 in
    let digits = p1 ▸ p2 ▸ p3 ▸ p4 ▸ puts-byte _ _ _ in
    puts-as digits (sym (five-digits _)) ▸ put-fits (rw length-set (omega (arith, room))) c.put.ensures
