-- What the route answers: where the own position is found, what a frame is told that passes, and each answer in numbers.
use mathlib.Core.Path.{◌≡◌, refl, sym, ◌∙◌}
use mathlib.Core.Bool.{Bool, true, false}
use Prim.Native.Nat.{◌≤◌, ◌<◌}
use native.Mathlib.Omega.{arith}
use borrow.Author.Tests.{ne_eqb}
use lib.Dec.{eqb}
use Rattle.std.specs.Prelude.{Some, None, Ok, Err}
use Rattle.identifiers.specs.Choice.{both}
use Rattle.identifiers.specs.Refusals.{number_of}
use Rattle.identifiers.specs.Identifiers.{target_of}
use Rattle.identifiers.specs.declared.refusal.Refusal.{Refusal}
use Rattle.identifiers.specs.declared.identifier.Identifier.{Identifier}
use Rattle.identifiers.proofs.LawsChoice.{pick-false, stop, both_false}
use Rattle.readings.specs.declared.position.Position.{Position}
use Rattle.readings.specs.declared.routing.Side.{Side}
use Rattle.readings.specs.declared.routing.Passage.{Passage}
use Rattle.readings.specs.Positions.{place_of, address_of}
use Rattle.readings.specs.Routes.{own_position, named, onward_of, passage, routed_told, onward_number}
use Rattle.readings.proofs.LawsPositions.{trailer-back}

-- a trailer's own position is taken as it is, with a successor where it is below 5
pub own-found : (p : Position) (successor : Bool) → 1 ≤ place_of p → (successor ≡ true → place_of p < 5) → own_position (place_of p) successor ≡ Some p
unfolding own_position
own-found p true some most =
    let below : place_of p < 5 = most refl in
    pick-false _ _ (sym (stop true (ne_eqb (place_of p) 5 (λ (e : place_of p ≡ 5). omega arith)))) ∙ trailer-back p some
own-found p false some most = pick-false _ _ (both_false (eqb (place_of p) 5)) ∙ trailer-back p some

-- a frame that passes is kept by R and the destination alone, and sent on by the side and the successor alone
pub passage-is : (side : Side) (own : Position) (successor : Bool) (i : Identifier)
    → passage side own successor i ≡ record { kept = both (eqb i.reserved 0) (named (address_of own) (target_of i)); onward = onward_of side successor }
unfolding passage
passage-is side own successor i = refl

-- ---- in numbers
pub told-passed : (p : Passage) → routed_told (Ok (Some p)) ≡ record { refusal = 0; kept = p.kept; onward = onward_number p.onward }
unfolding routed_told
told-passed p = refl

pub told-neither : routed_told (Ok None) ≡ record { refusal = 0; kept = false; onward = 0 }
unfolding routed_told
told-neither = refl

pub told-refused : (why : Refusal) → routed_told (Err why) ≡ record { refusal = number_of why; kept = false; onward = 0 }
unfolding routed_told
told-refused why = refl
