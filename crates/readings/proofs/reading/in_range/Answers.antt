-- `in_range` meets its contract: past the last raw number it is beyond range, and else the exact value.
use mathlib.Core.Path.{sym}
use borrow.Author.Rules.{sfits_of}
use borrow.Author.Tests.{lt-ltb}
use mir.Syntax.{w32}
use mir.Facts.{to_z-of_z}
use Rattle.identifiers.proofs.LawsChoice.{taken}
use Rattle.readings.specs.Readings.{in_range}
use Rattle.readings.proofs.LawsReadings.{value-of}
use Rattle.readings.proofs.reading.in_range.Goals as goal

pub returns-then-kind-raw : goal.returns-then-kind-raw
unfolding in_range
returns-then-kind-raw c = taken _ (lt-ltb _ _ c.if-kind-raw.true) c.without_value.ensures

pub returns : goal.returns
returns c =
    rw (c.physical-value.ensures, to_z-of_z {w = w32} (sfits_of c.whole.type_inv), c.whole.ensures) (sym (value-of c.args.kind c.args.raw c.if-kind-raw.false))
