-- `content_of_19` meets its contract: by the one test.
use mathlib.Core.Path.{refl}
use Prim.Native.Nat.{◌+◌, ◌*◌}
use native.Mathlib.Omega.{arith}
use borrow.Author.Tests.{lt-ltb, le-ltb}
use Rattle.identifiers.proofs.LawsChoice.{taken, passed}
use Rattle.server.proofs.checks.content_of_19.Goals as goal

pub returns-then-listed-gt63 : goal.returns-then-listed-gt63
returns-then-listed-gt63 c = taken _ (lt-ltb 255 (3 + 4 * c.args.listed) (omega (arith, c.if-listed-gt63.true))) refl

pub returns : goal.returns
returns c = passed _ (le-ltb 255 (3 + 4 * c.args.listed) (omega (arith, c.if-listed-gt63.false))) refl
