-- The route in laws: each refusal, what passes, what is kept and sent on; a frame is never sent back, and priority is ignored.
use mathlib.Core.Path.{◌≡◌, refl, sym, ap, ◌∙◌}
use mathlib.Core.Bool.{Bool, true, false}
use mathlib.Core.Logic.{◌↔◌}
use Prim.Native.Nat.{ℕ, ◌/◌, ◌%◌, ◌^◌, ◌≤◌, ◌<◌}
use native.Mathlib.Decide.{dec_lt}
use native.Mathlib.Omega.{arith}
use borrow.Author.Tests.{ltb-true, eqb-true, lt-ltb, eq-eqb}
use lib.Dec.{eqb}
use Rattle.std.specs.Prelude.{Option, Some, None, Ok, Err}
use Rattle.identifiers.specs.Choice.{pick, either}
use Rattle.identifiers.specs.Refusals.{refusal}
use Rattle.identifiers.specs.Identifiers.{fields_of, frame_passing, target_of}
use Rattle.identifiers.specs.declared.refusal.Refusal.{Refusal}
use Rattle.identifiers.specs.declared.identifier.Identifier.{Identifier}
use Rattle.identifiers.proofs.LawsChoice.{pick_true, pick-false, so, both_true, left-holds, right-holds}
use Rattle.identifiers.proofs.LawsIdentifiers.{fields-are, reserved-is, target-destination, target-group, target-same}
use Rattle.readings.specs.declared.position.Position.{Position}
use Rattle.readings.specs.declared.routing.Side.{Side}
use Rattle.readings.specs.declared.routing.Side.TheVariants.{Predecessor, Successor}
use Rattle.readings.specs.Positions.{place_of, address_of, global, position_of}
use Rattle.readings.specs.Routes.{own_position, comes_from, named, onward_of, passage, routed_from, routed_by, routed_read, routed_at, route_of, ComesFrom, Named, to_own, to_all, to_group, Keeps}

-- ---- the route of a frame whose fields were read
module _ (side : Side) (own : Position) (successor : Bool) (i : Identifier) where
  pub from-none : position_of i.source ≡ None → routed_by side own successor i ≡ None
  unfolding routed_by routed_from
  from-none h = ap (routed_from side own successor i) h

  pub from_wrong : (p : Position) → position_of i.source ≡ Some p → comes_from side (place_of own) successor (place_of p) ≡ false → routed_by side own successor i ≡ None
  unfolding routed_by routed_from
  from_wrong p h k = ap (routed_from side own successor i) h ∙ pick-false _ _ k

  pub from-right : (p : Position) → position_of i.source ≡ Some p → comes_from side (place_of own) successor (place_of p) ≡ true
      → routed_by side own successor i ≡ Some (passage side own successor i)
  unfolding routed_by routed_from
  from-right p h k = ap (routed_from side own successor i) h ∙ pick_true _ _ k

-- ---- from where a frame comes rightly, and which one is kept, in the wire's numbers
pub comes-exactly : (side : Side) (own : ℕ) (successor : Bool) (source : ℕ) → comes_from side own successor source ≡ true ↔ ComesFrom side own successor source
unfolding comes_from
comes-exactly Predecessor own successor source = (λ e. ltb-true _ _ e, λ h. lt-ltb _ _ h)
comes-exactly Successor own successor source = (
  λ e. let b = both_true _ _ e in (b.0, ltb-true _ _ b.1),
  λ (h : (successor ≡ true) × (own < source)). sym (so h.0 (sym (lt-ltb _ _ h.1))),
)

module _ (own : Position) (n : ℕ) where
  abbrev PF : ℕ
  PF = n / 2 ^ 16 % 2 ^ 8

  abbrev PS : ℕ
  PS = n / 2 ^ 8 % 2 ^ 8

  to-destination : PF < 240 → named (address_of own) (target_of (fields_of n)) ≡ either (eqb PS (address_of own)) (eqb PS global)
  unfolding named
  to-destination h = rw (fields-are n) (ap (named (address_of own)) (target-destination _ h))

  to-a-group : 240 ≤ PF → named (address_of own) (target_of (fields_of n)) ≡ true
  unfolding named
  to-a-group h = rw (fields-are n) (ap (named (address_of own)) (target-group _ h))

  which : (mine all : Bool) → PF < 240 → eqb PS (address_of own) ≡ mine → eqb PS global ≡ all → either mine all ≡ true → Named own n
  unfolding either
  which true all h a b e = to_own h (eqb-true _ _ a)
  which false all h a b e = to_all h (eqb-true _ _ (b ∙ e))

  named-so : Named own n → named (address_of own) (target_of (fields_of n)) ≡ true
  named-so (to_own h e) = to-destination h ∙ sym (left-holds _ (eq-eqb _ _ e))
  named-so (to_all h e) = to-destination h ∙ sym (right-holds _ (eq-eqb _ _ e))
  named-so (to_group h) = to-a-group h

  names : Dec (PF < 240) → named (address_of own) (target_of (fields_of n)) ≡ true → Named own n
  names (yes h) e = which _ _ h refl refl (sym (to-destination h) ∙ e)
  names (no h) e = to_group (omega arith)

  pub named-exactly : named (address_of own) (target_of (fields_of n)) ≡ true ↔ Named own n
  named-exactly = (names (dec_lt PF 240), named-so)

  pub kept_exactly : (side : Side) (successor : Bool) → (passage side own successor (fields_of n)).kept ≡ true ↔ Keeps own n
  unfolding passage
  kept_exactly side successor = (
    λ e. let b = both_true _ _ e in record { reserved = sym (reserved-is n) ∙ eqb-true _ _ b.0; names = named-exactly.0 b.1 },
    λ (k : Keeps own n). sym (so (eq-eqb _ _ (reserved-is n ∙ k.reserved)) (sym (named-exactly.1 k.names))),
  )

-- ---- one law a rung: 1, then what the frame's reader refuses, else the route
module _ (side : Side) (own : ℕ) (successor : Bool) (number count : ℕ) where
  pub route-1 : own_position own successor ≡ None → route_of side own successor number count ≡ Err (refusal 1)
  unfolding route_of routed_at
  route-1 h = ap (routed_at side successor _) h

  pub route-refused : (p : Position) (why : Refusal) → own_position own successor ≡ Some p → frame_passing number count ≡ Err why → route_of side own successor number count ≡ Err why
  unfolding route_of routed_at routed_read
  route-refused p why h k = ap (routed_at side successor (frame_passing number count)) h ∙ ap (routed_read side p successor) k

  pub route-read : (p : Position) (i : Identifier) → own_position own successor ≡ Some p → frame_passing number count ≡ Ok i
      → route_of side own successor number count ≡ Ok (routed_by side p successor i)
  unfolding route_of routed_at routed_read
  route-read p i h k = ap (routed_at side successor (frame_passing number count)) h ∙ ap (routed_read side p successor) k

-- ---- "sent on unchanged to the other side where a neighbour exists (the predecessor always does)"
pub sent-on : (onward_of Predecessor true ≡ Some Successor) × ((onward_of Predecessor false ≡ None) × ((successor : Bool) → onward_of Successor successor ≡ Some Predecessor))
unfolding onward_of pick
sent-on = (refl, (refl, λ successor. refl))

-- ---- a frame is never sent back to the side it came from
abbrev pub back : Side → Option Side
back Predecessor = Some Predecessor
back Successor = Some Successor

pub never_back : (side : Side) (successor : Bool) → onward_of side successor ≡ back side → ⊥
unfolding onward_of pick
never_back Predecessor true e = cc
never_back Predecessor false e = cc
never_back Successor successor e = cc

-- ---- "Priority is ignored on receipt"
abbrev pub with_priority : ℕ → Identifier → Identifier
with_priority p i = record { priority = p; reserved = i.reserved; data_page = i.data_page; format = i.format; specific = i.specific; source = i.source }

pub priority-ignored : (side : Side) (own : Position) (successor : Bool) (i : Identifier) (p : ℕ) → routed_by side own successor (with_priority p i) ≡ routed_by side own successor i
unfolding routed_by routed_from passage
priority-ignored side own successor i p = go (position_of i.source)
  where
    go : (v : Option Position) → routed_from side own successor (with_priority p i) v ≡ routed_from side own successor i v
    go (Some q) = rw (target-same (with_priority p i) i refl refl)
    go None = refl
