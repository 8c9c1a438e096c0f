-- `read_words` meets its contract: two hexadecimal digits are a byte.
use Rattle.std.proofs.Common.{arith}
use Rattle.input.proofs.LawsWithin.{below_number}
use Rattle.trial.proofs.read_words.Goals as goal

pub overflow_cast-result : goal.overflow_cast-result
overflow_cast-result c = omega (arith, below_number 256 _ _ c.in_ok-mask.was c.hex_word.ensures)
