-- `put_hex` meets its contract: the two digits are a text.
use Rattle.text.specs.Digits.{hex}
use Rattle.text.proofs.putting.put_hex.Goals as goal

pub returns : goal.returns
unfolding hex
returns c = rw (c.hex_digit.ensures, c.hex_digit-2.ensures) at c.put.ensures
