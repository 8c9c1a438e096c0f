-- `change` meets its contract: a group is cleared, and nothing else changes.
use mathlib.Core.Path.{◌≡◌, refl}
use Prim.Native.Nat.{ℕ}
use Rattle.std.specs.Prelude.{Ok}
use Rattle.server.specs.Server.{changed_by}
use Rattle.server.specs.declared.trailer.TrailerRecord.{TrailerRecord}
use Rattle.server.specs.declared.requests.Request.{Request}
use Rattle.server.proofs.trailer.TrailerRecord.change.Goals as goal

-- a request that clears no group
others : (t : TrailerRecord) (asked : Request) → ((group : ℕ) → asked ≡ Request.ClearGroup group → ⊥) → t ≡ changed_by t (Ok asked)
unfolding changed_by
others t (Request.ClearGroup group) n = absurd (n group refl)
others t (Request.CountByMask silent mask) n = refl
others t (Request.ListByMask silent mask) n = refl
others t (Request.ListAll silent) n = refl
others t Request.ReadData n = refl
others t (Request.TesterPresent silent) n = refl

pub returns-in-ClearGroup : goal.returns-in-ClearGroup
unfolding changed_by
returns-in-ClearGroup c = rw c.in-ClearGroup.is c.clear.ensures

pub returns-in_default : goal.returns-in_default
returns-in_default c = others _ _ c.in_default.not-ClearGroup
