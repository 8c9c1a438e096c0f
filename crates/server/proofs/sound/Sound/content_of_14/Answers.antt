-- `content_of_14` meets its contract: every group, or a code that is held.
use mathlib.Core.Path.{◌≡◌, refl, sym, ◌∙◌}
use mathlib.Core.Bool.{Bool}
use mathlib.Core.List.{List}
use Prim.Native.Nat.{ℕ}
use borrow.Author.Tests.{eq-eqb, ne_eqb}
use lib.Dec.{eqb}
use lib.ListN.{length, take}
use Rattle.std.specs.List.{list_any}
use Rattle.identifiers.proofs.LawsChoice.{taken, passed, left-holds, right-holds, right-decides}
use Rattle.server.specs.Places.{held_among}
use Rattle.server.specs.Faults.{group_held}
use Rattle.server.specs.Server.{content_of_14}
use Rattle.server.proofs.LawsHeld.{held-any, whole}
use Rattle.server.proofs.sound.Sound.content_of_14.Goals as goal
use Rattle.server.proofs.sound.Sound.content_of_14.Goals.{then-group-eq-ALL_GROUPS-via-then-group-eq-ALL_GROUPS, then-group-eq-ALL_GROUPS-via-else-group-eq-ALL_GROUPS+then-contains}

-- what is asked of the part that is held
among : (part l : List ℕ) (n x : ℕ) {b : Bool} → (part ≡ take n l) × (length part ≡ n) → b ≡ list_any (λ y. eqb y x) part → held_among l n x ≡ b
among part l n x p e = let long : length (take n l) ≡ n = rw p.0 at p.1 in sym (held-any l x n (whole l n long)) ∙ sym (rw p.0 at e)

pub returns-then-group-eq-ALL_GROUPS : goal.returns-then-group-eq-ALL_GROUPS
unfolding content_of_14 group_held
returns-then-group-eq-ALL_GROUPS c = elim c.then-group-eq-ALL_GROUPS.branch [
  | then-group-eq-ALL_GROUPS-via-then-group-eq-ALL_GROUPS w ↦ taken _ (sym (left-holds _ (eq-eqb _ _ w.if-group-eq-ALL_GROUPS.true))) refl
  | then-group-eq-ALL_GROUPS-via-else-group-eq-ALL_GROUPS+then-contains w ↦
      taken _ (sym (right-holds _ (among _ _ _ _ w.codes.ensures w.contains.ensures.value ∙ w.if-contains.true))) refl
]

pub returns : goal.returns
unfolding content_of_14 group_held
returns c =
    passed _ (sym (right-decides (ne_eqb _ _ c.if-group-eq-ALL_GROUPS.false) (sym (among _ _ _ _ c.codes.ensures c.contains.ensures.value ∙ c.if-contains.false)))) refl
