-- `answer_positively` meets its contract: silent, or the answer's bytes.
use mathlib.Core.Path.{refl, sym, ap, ◌∙◌}
use native.Mathlib.Omega.{arith}
use Rattle.std.specs.Prelude.{Some}
use Rattle.identifiers.proofs.LawsChoice.{taken, passed}
use Rattle.server.proofs.sound.Sound.answer_positively.Goals as goal

pub returns-then-silences : goal.returns-then-silences
returns-then-silences c = let silent = sym c.silences.ensures ∙ c.if-silences.true in (taken _ silent refl, taken _ silent refl)

pub returns : goal.returns
returns c =
    let loud = sym c.silences.ensures ∙ c.if-silences.false in
    let p = c.put_positive.ensures in
    (passed _ loud (ap Some (omega (arith, p.ends))), passed _ loud p.holds)
