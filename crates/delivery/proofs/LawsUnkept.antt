-- Frames that nobody keeps: one with R set comes to all to whom the same with R 0 does, and one that 2 or 3 refuses to the sender's neighbours alone.
use mathlib.Core.Path.{◌≡◌, refl, ap, ap₂, ◌∙◌}
use mathlib.Core.Bool.{Bool, true, false}
use mathlib.Core.List.{List, [], ◌∷◌, map-append}
use mathlib.Core.Logic.{◌⊎◌, inl, inr}
use Prim.Native.Nat.{ℕ, zero, suc, ◌-◌, ◌^◌, ◌≤◌, ◌<◌}
use native.Mathlib.Decide.{dec_lt}
use native.Mathlib.Omega.{arith}
use Rattle.std.specs.Prelude.{Option, Some, None, Result, Ok, Err}
use Rattle.identifiers.specs.Choice.{both}
use Rattle.identifiers.specs.Identifiers.{reserved_bit, frame_passing}
use Rattle.identifiers.specs.Refusals.{refusal}
use Rattle.identifiers.specs.declared.refusal.Refusal.{Refusal}
use Rattle.identifiers.proofs.LawsIdentifiers.{passing-2, passing-3}
use Rattle.identifiers.proofs.LawsReserved.{with_reserved, read_set, set-passing}
use Rattle.readings.specs.declared.position.Position.{Position}
use Rattle.readings.specs.declared.position.Position.TheVariants.{Zero}
use Rattle.readings.specs.declared.routing.Passage.{Passage}
use Rattle.readings.specs.declared.routing.Side.{Side}
use Rattle.readings.specs.declared.routing.Side.TheVariants.{Predecessor, Successor}
use Rattle.readings.specs.Positions.{place_of}
use Rattle.readings.specs.Routes.{own_position, route_of}
use Rattle.readings.proofs.LawsRoutes.{route-1, route-refused}
use Rattle.readings.proofs.LawsAnswers.{passage-is}
use Rattle.readings.proofs.LawsReserved as reserved
use Rattle.delivery.specs.Hands.{Arrival, kept_by, onward_by, sent_on, kept_by_towing, has_successor, route_at, handed, delivered}
use Rattle.delivery.specs.Delivery.{unkept}
use Rattle.delivery.proofs.LawsNeighbours.{by-neighbours}
use Rattle.identifiers.specs.declared.identifier.Identifier.{Identifier}

-- ---- what each vehicle makes of the frame, all make of it
pub sent-unkept : (own : ℕ → ℕ) (n number other count hands more : ℕ) (q : Position) → ((place : ℕ) (side : Side) → handed own n number count hands place side ≡ unkept (handed own n other count more place side))
    → delivered own n number count hands q ≡ unkept (delivered own n other count more q)
sent-unkept own n number other count hands more q each =
    by-neighbours own n number other count hands more unkept refl (map-append _) q (λ p e. each p Successor) (λ e. each (suc (place_of q)) Predecessor)

-- ---- R set: the same frame with R 0 is, as a number, 2 ^ 25 less
set-kept : (r : Result (Option Passage) Refusal) → kept_by (reserved.unkept r) ≡ false
unfolding kept_by
set-kept (Ok (Some p)) = refl
set-kept (Ok None) = refl
set-kept (Err why) = refl

set-onward : (r : Result (Option Passage) Refusal) → onward_by (reserved.unkept r) ≡ onward_by r
unfolding onward_by
set-onward (Ok (Some p)) = refl
set-onward (Ok None) = refl
set-onward (Err why) = refl

set-towing : (answer : Result Identifier Refusal) → kept_by_towing (read_set answer) ≡ false
unfolding kept_by_towing both
set-towing (Ok i) = ap (λ (x : Passage). x.kept) (passage-is Successor Zero true (with_reserved 1 i))
set-towing (Err why) = refl

unkept-on : (o p : Option Side) (a b c d : List Arrival) → o ≡ p → a ≡ unkept c → b ≡ unkept d → sent_on o a b ≡ unkept (sent_on p c d)
unfolding sent_on
unkept-on o None a b c d e f g = rw e
unkept-on o (Some Predecessor) a b c d e f g = rw e f
unkept-on o (Some Successor) a b c d e f g = rw e g

pub handed-set : (own : ℕ → ℕ) (n number count : ℕ) → reserved_bit number ≡ 1 → (hands place : ℕ) (side : Side) → handed own n number count hands place side ≡ unkept (handed own n (number - 2 ^ 25) count hands place side)
unfolding handed
handed-set own n number count set zero place side = refl
handed-set own n number count set (suc hands) zero side =
    ap (λ (k : Bool). record { at = 0; kept = k } ∷ []) (ap kept_by_towing (set-passing number set count) ∙ set-towing (frame_passing (number - 2 ^ 25) count))
handed-set own n number count set (suc hands) (suc p) side =
    let r = route_at own n (number - 2 ^ 25) count (suc p) side in
    let e = reserved.reserved-sent-on side (own (suc p)) (has_successor n (suc p)) number count set in
    ap₂ (λ (k : Bool) (l : List Arrival). record { at = suc p; kept = k } ∷ l) (ap kept_by e ∙ set-kept r)
    (unkept-on _ _ _ _ _ _ (ap onward_by e ∙ set-onward r) (handed-set own n number count set hands p Successor) (handed-set own n number count set hands (suc (suc p)) Predecessor))

-- ---- refused by 2 or 3: at every place, by one of these or by 1
pub refused-read : (number count : ℕ) → (2 ^ 29 ≤ number) ⊎ (8 < count) → (why : Refusal) × (frame_passing number count ≡ Err why)
refused-read number count (inl h) = (refusal 2, passing-2 number count h)
refused-read number count (inr h) = go (dec_lt number (2 ^ 29))
  where
    go : Dec (number < 2 ^ 29) → (why : Refusal) × (frame_passing number count ≡ Err why)
    go (yes l) = (refusal 3, passing-3 number count l h)
    go (no l) = (refusal 2, passing-2 number count (omega arith))

refused-at : (side : Side) (place : ℕ) (behind : Bool) (number count : ℕ) (why : Refusal) → frame_passing number count ≡ Err why
    → (other : Refusal) × (route_of side place behind number count ≡ Err other)
refused-at side place behind number count why e = go (own_position place behind) refl
  where
    go : (v : Option Position) → own_position place behind ≡ v → (other : Refusal) × (route_of side place behind number count ≡ Err other)
    go (Some p) own = (why, route-refused side place behind number count p why own e)
    go None own = (refusal 1, route-1 side place behind number count own)

-- one hand, and no more
pub handed-refused : (own : ℕ → ℕ) (n number count : ℕ) (why : Refusal) → frame_passing number count ≡ Err why → (hands place : ℕ) (side : Side)
    → handed own n number count (suc hands) place side ≡ unkept (handed own n number count 1 place side)
unfolding handed kept_by onward_by sent_on kept_by_towing
handed-refused own n number count why e hands zero side = ap (λ (answer : Result Identifier Refusal). record { at = 0; kept = kept_by_towing answer } ∷ []) e
handed-refused own n number count why e hands (suc p) side =
    let r = refused-at side (own (suc p)) (has_successor n (suc p)) number count why e in
    rw r.1
