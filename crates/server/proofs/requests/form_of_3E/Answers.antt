-- `form_of_3E` meets its contract: each return stands at its rung.
use mathlib.Core.Path.{refl}
use borrow.Author.Tests.{eq-eqb, ne_eqb, lt-ltb, le-ltb}
use Rattle.identifiers.proofs.LawsChoice.{taken, passed}
use Rattle.server.specs.Requests.{sub_function_of, silencing, form_of_3e}
use Rattle.server.proofs.requests.form_of_3E.Goals as goal

pub returns-then-n-lt2 : goal.returns-then-n-lt2
unfolding form_of_3e
returns-then-n-lt2 c = taken _ (lt-ltb _ 2 c.if-n-lt2.true) refl

pub returns-then-request-eq0 : goal.returns-then-request-eq0
unfolding form_of_3e sub_function_of silencing
returns-then-request-eq0 c = passed _ (le-ltb _ 2 c.if-n-lt2.false) (taken _ (eq-eqb _ 0x00 c.if-request-eq0.true) c.sized.ensures)

pub returns : goal.returns
unfolding form_of_3e sub_function_of
returns c = passed _ (le-ltb _ 2 c.if-n-lt2.false) (passed _ (ne_eqb _ 0x00 c.if-request-eq0.false) refl)
