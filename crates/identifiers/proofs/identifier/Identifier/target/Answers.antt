-- `Identifier::target` meets its contract: by the one test.
use mathlib.Core.Path.{refl}
use borrow.Author.Tests.{lt-ltb, le-ltb}
use Rattle.identifiers.specs.Identifiers.{target_of}
use Rattle.identifiers.proofs.LawsChoice.{taken, passed}
use Rattle.identifiers.proofs.identifier.Identifier.target.Goals as goal

pub returns-then-self-lt-FIRST_GROUP : goal.returns-then-self-lt-FIRST_GROUP
unfolding target_of
returns-then-self-lt-FIRST_GROUP c = taken _ (lt-ltb _ _ c.if-self-lt-FIRST_GROUP.true) refl

pub returns : goal.returns
unfolding target_of
returns c = passed _ (le-ltb _ _ c.if-self-lt-FIRST_GROUP.false) refl
