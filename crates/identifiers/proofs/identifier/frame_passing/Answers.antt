-- `frame_passing` meets its contract: each return stands at its rung of `frame_passing`.
use mathlib.Core.Path.{sym}
use Rattle.identifiers.specs.Identifiers.{reserved_bit, fields_of}
use Rattle.identifiers.proofs.LawsIdentifiers.{passing-2, passing-3, passing-fields}
use Rattle.identifiers.proofs.identifier.frame_passing.Goals as goal

pub returns-then-number-ge-TOO_LARGE : goal.returns-then-number-ge-TOO_LARGE
returns-then-number-ge-TOO_LARGE c = sym (passing-2 _ _ c.if-number-ge-TOO_LARGE.true)

pub returns-then-count-gt8 : goal.returns-then-count-gt8
returns-then-count-gt8 c = sym (passing-3 _ _ c.if-number-ge-TOO_LARGE.false c.if-count-gt8.true)

pub returns : goal.returns
unfolding fields_of reserved_bit
returns c = sym (passing-fields _ _ c.if-number-ge-TOO_LARGE.false c.if-count-gt8.false)
