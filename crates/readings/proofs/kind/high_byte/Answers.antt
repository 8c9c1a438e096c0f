-- `high-byte` meets its contract: by how many bytes there are.
use mathlib.Core.Path.{refl}
use borrow.Author.Tests.{eq-eqb, ne_eqb}
use Rattle.identifiers.proofs.LawsChoice.{taken, passed}
use Rattle.readings.specs.Kinds.{high_byte}
use Rattle.readings.proofs.kind.high_byte.Goals as goal

pub returns-then-bytes-eq1 : goal.returns-then-bytes-eq1
unfolding high_byte
returns-then-bytes-eq1 c = taken _ (eq-eqb _ _ c.if-bytes-eq1.true) refl

pub returns : goal.returns
unfolding high_byte
returns c = passed _ (ne_eqb _ _ c.if-bytes-eq1.false) refl
