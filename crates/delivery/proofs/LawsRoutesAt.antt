-- What the vehicles of a train answer to a frame that another of them sends: it passes, and is kept by the destination rule.
use mathlib.Core.Path.{◌≡◌, refl, sym, ap, ◌∙◌, subst}
use mathlib.Core.Bool.{Bool, true, false}
use mathlib.Core.Logic.{◌↔◌}
use Prim.Native.Nat.{ℕ, ◌≤◌, ◌<◌}
use native.Mathlib.Nat.{lt_of_lt_of_le}
use native.Mathlib.Omega.{arith}
use borrow.Author.Tests.{lt-ltb, le-ltb, ltb-true}
use lib.Dec.{eqb}
use Rattle.std.specs.Prelude.{Option, Some, None, Result, Ok}
use Rattle.identifiers.specs.Choice.{both}
use Rattle.identifiers.specs.Identifiers.{fields_of, frame_passing, target_of}
use Rattle.identifiers.proofs.LawsIdentifiers.{passing-fields}
use Rattle.readings.specs.declared.position.Position.{Position}
use Rattle.readings.specs.declared.position.Position.TheVariants.{Zero}
use Rattle.readings.specs.declared.routing.Passage.{Passage}
use Rattle.readings.specs.declared.routing.Side.{Side}
use Rattle.readings.specs.declared.routing.Side.TheVariants.{Successor}
use Rattle.readings.specs.Positions.{place_of, address_of, position_of, position_at}
use Rattle.readings.specs.Routes.{named, onward_of, route_of, ComesFrom, Keeps}
use Rattle.readings.proofs.LawsPositions.{address-back, place-back, place-only, position-none}
use Rattle.readings.proofs.LawsRoutes.{from-right, comes-exactly, kept_exactly, route-read}
use Rattle.readings.proofs.LawsAnswers.{passage-is, own-found}
use Rattle.delivery.specs.Hands.{kept_by_towing, has_successor, route_at}
use Rattle.delivery.specs.Delivery.{Sent}
use Rattle.identifiers.specs.declared.refusal.Refusal.{Refusal}

-- ---- who keeps a frame, by its position and by its place
abbrev pub keeps : ℕ → Position → Bool
keeps number p = both (eqb (fields_of number).reserved 0) (named (address_of p) (target_of (fields_of number)))

kept_as : ℕ → Option Position → Bool
kept_as number (Some p) = keeps number p
kept_as number None = false

pub keeps_at : ℕ → ℕ → Bool
keeps_at number place = kept_as number (position_at place)

pub keeps-at : (number : ℕ) (p : Position) → keeps_at number (place_of p) ≡ keeps number p
unfolding keeps_at kept_as
keeps-at number p = ap (kept_as number) (place-back p)

pub keeps-exactly : (number : ℕ) (p : Position) → keeps number p ≡ true ↔ Keeps p number
keeps-exactly number p =
    let is = ap (λ (x : Passage). x.kept) (passage-is Successor p true (fields_of number)) in
    let k = kept_exactly p number Successor true in
    (λ h. k.0 (is ∙ h), λ h. sym is ∙ k.1 h)

-- each place up to 5 is a vehicle's
pub at_place : (place : ℕ) → place ≤ 5 → (p : Position) × (place_of p ≡ place)
at_place place most = go (position_at place) refl
  where
    go : (v : Option Position) → position_at place ≡ v → (p : Position) × (place_of p ≡ place)
    go (Some p) e = (p, place-only place p e)
    go None e = absurd (omega (arith, position-none place e))

-- ---- who has a vehicle behind it: all before the last, and no other
pub before-the-last : (n place : ℕ) → has_successor n place ≡ true → place < n
unfolding has_successor
before-the-last n place e = lt_of_lt_of_le (ltb-true place _ e) (omega arith)

pub has-successor : (n place : ℕ) → place < n → has_successor n place ≡ true
unfolding has_successor
has-successor n place l = lt-ltb place n l

pub has-none : (n place : ℕ) → n ≤ place → has_successor n place ≡ false
unfolding has_successor
has-none n place l = le-ltb place n l

-- ---- a frame that the vehicle q sends
module _ (own : ℕ → ℕ) (n number count : ℕ) (q : Position) (s : Sent own n number count q) where
  abbrev passes : ℕ → Side → Result (Option Passage) Refusal
  passes place side = Ok (Some (record { kept = keeps_at number place; onward = onward_of side (has_successor n place) }))

  trailer-passes : (p : Position) (side : Side) → 1 ≤ place_of p → ComesFrom side (place_of p) (has_successor n (place_of p)) (place_of q)
      → route_of side (place_of p) (has_successor n (place_of p)) number count ≡ passes (place_of p) side
  trailer-passes p side some from =
      let behind = has_successor n (place_of p) in
      let found = own-found p behind some (λ (e : behind ≡ true). omega (arith, s.trailers, before-the-last n (place_of p) e)) in
      route-read side (place_of p) behind number count p (fields_of number) found (passing-fields number count s.range s.data_bytes)
      ∙ ap Ok (from-right side p behind (fields_of number) q (ap position_of s.source ∙ address-back q) ((comes-exactly side _ _ _).1 from))
      ∙ ap (λ (y : Passage). Ok (Some y)) (passage-is side p behind (fields_of number))
      ∙ ap (λ (k : Bool). Ok (Some (record { kept = k; onward = onward_of side behind }))) (sym (keeps-at number p))

  pub trailer-at : (place : ℕ) (side : Side) → 1 ≤ place → place ≤ n → ComesFrom side place (has_successor n place) (place_of q) → route_at own n number count place side ≡ passes place side
  trailer-at place side some most from =
      let p = at_place place (omega (arith, s.trailers)) in
      ap (λ (k : ℕ). route_of side k (has_successor n place) number count) (s.right place some most)
      ∙ subst (λ (k : ℕ). route_of side k (has_successor n k) number count ≡ passes k side) p.1 (trailer-passes p.0 side (rw p.1 some) (rw p.1 from))

  pub towing-at : kept_by_towing (frame_passing number count) ≡ keeps_at number 0
  unfolding kept_by_towing
  towing-at = ap kept_by_towing (passing-fields number count s.range s.data_bytes) ∙ ap (λ (x : Passage). x.kept) (passage-is Successor Zero true (fields_of number)) ∙ sym (keeps-at number Zero)
