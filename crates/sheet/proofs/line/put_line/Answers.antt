-- `put_line` meets its contract: the numbers, the word and the newline in a row.
use native.Mathlib.Nat.{le_of_eq}
use Rattle.identifiers.proofs.LawsBytes.{◌▸◌}
use Rattle.text.proofs.LawsPutting.{room-behind, put_on, put-fits}
use Rattle.sheet.specs.Text.{line_of}
use Rattle.sheet.proofs.LawsPrinted.{length-word, length-numbers}
use Rattle.sheet.proofs.line.put_line.Goals as goal

pub returns : goal.returns
unfolding line_of
returns c =
    let numbers = c.put_numbers-word.ensures in
    let word = put_on 4 1 (le_of_eq (length-word _)) (room-behind 18 5 (length-numbers _) c.requires numbers) (rw c.basis_of-basis.ensures at c.put_word-end.ensures) in
    numbers ▸ word.0 ▸ put-fits word.1 c.put.ensures
