-- `form_of_14` meets its contract: the length decides.
use mathlib.Core.Path.{◌≡◌, refl, ap}
use Prim.Native.Nat.{ℕ}
use native.Mathlib.Omega.{arith}
use borrow.Author.Tests.{eq-eqb, ne_eqb}
use Rattle.std.specs.Prelude.{Result, Ok}
use Rattle.identifiers.proofs.LawsChoice.{taken, passed}
use Rattle.server.specs.Requests.{sized, group_of, form_of_14}
use Rattle.server.specs.declared.requests.Request.{Request}
use Rattle.server.specs.declared.requests.Unread.{Unread}
use Rattle.server.proofs.requests.form_of_14.Goals as goal

pub returns-in_default : goal.returns-in_default
unfolding form_of_14 sized
returns-in_default c = passed _ (ne_eqb _ 4 (omega arith)) refl

pub returns-in_default-2 : goal.returns-in_default-2
unfolding form_of_14 sized
returns-in_default-2 c = passed _ (ne_eqb _ 4 (omega arith)) refl

pub returns : goal.returns
unfolding form_of_14 sized group_of
returns c =
    let group : c.from_be_bytes-group.result ≡ group_of c.args.request.now = omega (arith, c.from_be_bytes-group.ensures) in
    taken _ (eq-eqb _ 4 (omega arith)) (ap (λ (n : ℕ). let r : Result Request Unread = Ok (Request.ClearGroup n) in r) group)
