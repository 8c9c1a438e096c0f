-- `put_mask` meets its contract: two digits, and a blank.
use native.Mathlib.Nat.{le_of_eq}
use Rattle.identifiers.proofs.LawsBytes.{◌▸◌}
use Rattle.text.proofs.LawsDigits.{length-hex}
use Rattle.text.proofs.LawsPutting.{put-fits, put_on}
use Rattle.sheet.proofs.line.put_mask.Goals as goal

pub returns : goal.returns
returns c room =
    let digits = put_on 2 1 (le_of_eq (length-hex _)) room c.put_hex-end.ensures in
    digits.0 ▸ put-fits digits.1 c.put.ensures
