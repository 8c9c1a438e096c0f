-- Whatever stands in a frame, a route sends it on to the other side or nowhere: so what comes of it is what comes of it there, or nothing.
use mathlib.Core.Path.{◌≡◌, refl, ap, ◌∙◌}
use mathlib.Core.Bool.{Bool, true, false}
use mathlib.Core.List.{List, []}
use mathlib.Core.Logic.{◌⊎◌, inl, inr}
use Prim.Native.Nat.{ℕ, suc}
use Rattle.std.specs.Prelude.{Option, Some, None, Result, Ok, Err}
use Rattle.identifiers.specs.Choice.{pick}
use Rattle.identifiers.specs.Identifiers.{frame_passing}
use Rattle.identifiers.specs.declared.identifier.Identifier.{Identifier}
use Rattle.readings.specs.declared.position.Position.{Position}
use Rattle.readings.specs.declared.routing.Passage.{Passage}
use Rattle.readings.specs.declared.routing.Side.{Side}
use Rattle.readings.specs.declared.routing.Side.TheVariants.{Predecessor, Successor}
use Rattle.readings.specs.Positions.{place_of, position_of}
use Rattle.readings.specs.Routes.{own_position, comes_from, onward_of, routed_by, route_of}
use Rattle.readings.proofs.LawsRoutes.{from-none, from_wrong, from-right, route-1, route-refused, route-read, sent-on}
use Rattle.readings.proofs.LawsAnswers.{passage-is}
use Rattle.delivery.specs.Hands.{Arrival, onward_by, sent_on, has_successor, route_at, handed}
use Rattle.identifiers.specs.declared.refusal.Refusal.{Refusal}

-- ---- any route
abbrev GoesOn : Side → Bool → Option Side → Type 0
GoesOn side behind onward = (onward ≡ None) ⊎ (onward ≡ onward_of side behind)

abbrev passed : Option Passage → Option Side
passed r = onward_by (Ok r)

module _ (side : Side) (behind : Bool) where
  from-vehicle : (p x : Position) (i : Identifier) → position_of i.source ≡ Some x → (t : Bool) → comes_from side (place_of p) behind (place_of x) ≡ t → GoesOn side behind (onward_by (Ok (routed_by side p behind i)))
  unfolding onward_by
  from-vehicle p x i e true t = inr (ap passed (from-right side p behind i x e t) ∙ ap (λ (y : Passage). y.onward) (passage-is side p behind i))
  from-vehicle p x i e false t = inl (ap passed (from_wrong side p behind i x e t))

  by_source : (p : Position) (i : Identifier) (v : Option Position) → position_of i.source ≡ v → GoesOn side behind (onward_by (Ok (routed_by side p behind i)))
  unfolding onward_by
  by_source p i None e = inl (ap passed (from-none side p behind i e))
  by_source p i (Some x) e = from-vehicle p x i e (comes_from side (place_of p) behind (place_of x)) refl

  goes_on : (place number count : ℕ) → GoesOn side behind (onward_by (route_of side place behind number count))
  unfolding onward_by
  goes_on place number count = go (own_position place behind) (frame_passing number count) refl refl
    where
      go : (v : Option Position) (answer : Result Identifier Refusal) → own_position place behind ≡ v → frame_passing number count ≡ answer → GoesOn side behind (onward_by (route_of side place behind number count))
      go None answer own e = inl (ap onward_by (route-1 side place behind number count own))
      go (Some p) (Err why) own e = inl (ap onward_by (route-refused side place behind number count p why own e))
      go (Some p) (Ok i) own e = rw (route-read side place behind number count p i own e) (by_source p i (position_of i.source) refl)

-- ---- on to the other side: to the predecessor, and to the successor where there is one
pub on-ahead : (successor : Bool) (ahead behind : List Arrival) → sent_on (onward_of Successor successor) ahead behind ≡ ahead
unfolding sent_on
on-ahead successor ahead behind = ap (λ (o : Option Side). sent_on o ahead behind) (sent-on.1.1 successor)

pub on-behind : (successor : Bool) (ahead behind : List Arrival) → sent_on (onward_of Predecessor successor) ahead behind ≡ pick successor behind []
unfolding sent_on pick
on-behind true ahead behind = ap (λ (o : Option Side). sent_on o ahead behind) sent-on.0
on-behind false ahead behind = ap (λ (o : Option Side). sent_on o ahead behind) sent-on.1.0

-- what holds of nothing, and of two lists where there is one, holds where there may be one
pub picked : (R : List Arrival → List Arrival → Type 0) → R [] [] → (t : Bool) (a b : List Arrival) → (t ≡ true → R a b) → R (pick t a []) (pick t b [])
unfolding pick
picked R none true a b some = some refl
picked R none false a b some = none

-- ---- what comes of a frame behind its arrival at a trailer, and the place of the neighbour on the other side, where there is one
abbrev pub next : Side → ℕ → ℕ
next Successor p = p
next Predecessor p = suc (suc p)

abbrev pub HasNext : ℕ → Side → ℕ → Type 0
HasNext n Successor p = Unit {0}
HasNext n Predecessor p = has_successor n (suc p) ≡ true

module _ (own : ℕ → ℕ) (n number count : ℕ) where
  abbrev pub rest : ℕ → ℕ → Side → List Arrival
  rest hands p side = sent_on (onward_by (route_at own n number count (suc p) side)) (handed own n number count hands p Successor) (handed own n number count hands (suc (suc p)) Predecessor)

-- for two numbers of hands: what holds of nothing, and of that neighbour's hands, holds of it
module _ (own : ℕ → ℕ) (n number count : ℕ) (R : List Arrival → List Arrival → Type 0) (none : R [] []) where
  ahead : (o : Option Side) (t : Bool) (a b c d : List Arrival) → GoesOn Successor t o → R a c → R (sent_on o a b) (sent_on o c d)
  unfolding sent_on
  ahead o t a b c d (inl e) some = rw e none
  ahead o t a b c d (inr e) some = rw (e, on-ahead t a b, on-ahead t c d) some

  behind : (o : Option Side) (t : Bool) (a b c d : List Arrival) → GoesOn Predecessor t o → (t ≡ true → R b d) → R (sent_on o a b) (sent_on o c d)
  unfolding sent_on
  behind o t a b c d (inl e) some = rw e none
  behind o t a b c d (inr e) some = rw (e, on-behind t a b, on-behind t c d) (picked R none t b d some)

  pub goes : (side : Side) (a b p : ℕ) → (HasNext n side p → R (handed own n number count a (next side p) side) (handed own n number count b (next side p) side))
      → R (rest own n number count a p side) (rest own n number count b p side)
  goes Successor a b p some = ahead _ (has_successor n (suc p)) _ _ _ _ (goes_on Successor (has_successor n (suc p)) (own (suc p)) number count) (some tt)
  goes Predecessor a b p some = behind _ (has_successor n (suc p)) _ _ _ _ (goes_on Predecessor (has_successor n (suc p)) (own (suc p)) number count) some
