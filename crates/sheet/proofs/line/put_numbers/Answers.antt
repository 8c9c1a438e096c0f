-- `put_numbers` meets its contract: its columns, put in a row, each where there is room for it and for those behind it.
use native.Mathlib.Omega.{arith}
use Rattle.identifiers.proofs.LawsBytes.{◌▸◌}
use Rattle.text.proofs.LawsPutting.{put-given, room-behind}
use Rattle.sheet.specs.Text.{numbers_of}
use Rattle.sheet.proofs.LawsPrinted.{length-number, length-mask}
use Rattle.sheet.proofs.line.put_numbers.Goals as goal

pub put_number-requires : goal.put_number-requires
put_number-requires c =
    let mask = room-behind 6 12 (length-number _) c.requires c.put_number-mask.ensures in
    let available = put-given 3 9 (length-mask _) mask c.put_mask-available.ensures in
    let count = put-given 3 6 (length-mask _) available.1 c.put_mask-count.ensures in
    omega (arith, count.1)

pub returns : goal.returns
unfolding numbers_of
returns c =
    let position = c.put_number-mask.ensures in
    let mask = put-given 3 9 (length-mask _) (room-behind 6 12 (length-number _) c.requires position) c.put_mask-available.ensures in
    let available = put-given 3 6 (length-mask _) mask.1 c.put_mask-count.ensures in
    position ▸ mask.0 ▸ available.0 ▸ c.put_number.ensures
