-- `content_of_22` meets its contract: each return stands at its rung.
use mathlib.Core.Path.{refl}
use Prim.Native.Nat.{◌+◌}
use native.Mathlib.Omega.{arith}
use borrow.Author.Tests.{eq-eqb, ne_eqb, lt-ltb, le-ltb}
use Rattle.identifiers.proofs.LawsChoice.{taken, passed}
use Rattle.server.specs.Server.{content_of_22}
use Rattle.server.proofs.sound.Sound.content_of_22.Goals as goal

pub returns-then-n-eq0 : goal.returns-then-n-eq0
unfolding content_of_22
returns-then-n-eq0 c = taken _ (rw c.answers_length-n.ensures at (eq-eqb _ 0 c.if-n-eq0.true)) refl

pub returns-then-n-gt254 : goal.returns-then-n-gt254
unfolding content_of_22
returns-then-n-gt254 c =
    let n = c.answers_length-n in
    passed _ (rw n.ensures at (ne_eqb _ 0 c.if-n-eq0.false))
    (taken _ (rw n.ensures at (lt-ltb 255 (1 + n.result) (omega (arith, c.if-n-gt254.true)))) refl)

pub returns : goal.returns
unfolding content_of_22
returns c =
    let n = c.answers_length-n in
    passed _ (rw n.ensures at (ne_eqb _ 0 c.if-n-eq0.false))
    (passed _ (rw n.ensures at (le-ltb 255 (1 + n.result) (omega (arith, c.if-n-gt254.false)))) refl)
