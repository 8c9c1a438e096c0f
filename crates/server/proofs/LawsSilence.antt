-- Silence, by the code: bit 7 decides on a positive answer, the address on a negative one.
use mathlib.Core.Path.{◌≡◌}
use mathlib.Core.Bool.{Bool}
use Prim.Native.Nat.{ℕ}
use borrow.Author.Tests.{eq-eqb, ne_eqb}
use Rattle.std.specs.Prelude.{Result}
use Rattle.identifiers.specs.Choice.{both}
use Rattle.identifiers.proofs.LawsChoice.{pick_true, pick-false}
use Rattle.server.specs.Silence.{silenced, quiet_code, silent_on}
use Rattle.server.specs.declared.requests.Request.{Request}
use Rattle.server.specs.declared.requests.Unread.{Unread}

module _ (asked : Result Request Unread) (functional : Bool) {code : ℕ} where
  pub silent-positive : code ≡ 0 → silent_on asked functional code ≡ silenced asked
  unfolding silent_on
  silent-positive e = pick_true _ _ (eq-eqb _ _ e)

  pub silent-negative : (code ≡ 0 → ⊥) → silent_on asked functional code ≡ both functional (quiet_code code)
  unfolding silent_on
  silent-negative n = pick-false _ _ (ne_eqb _ _ n)
