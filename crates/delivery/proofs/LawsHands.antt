-- All arrivals of a frame that a vehicle sends: those ahead of it, the nearest first, then those behind it, for any number of hands that is enough.
use mathlib.Core.Path.{◌≡◌, refl, ap, ap₂, ◌∙◌}
use mathlib.Core.Bool.{Bool}
use mathlib.Core.List.{List, [], ◌∷◌, ◌++◌}
use Prim.Native.Nat.{ℕ, zero, suc, ◌+◌, ◌-◌, ◌≤◌}
use native.Mathlib.Omega.{arith}
use Rattle.identifiers.proofs.LawsChoice.{pick_true, pick-false}
use Rattle.readings.specs.declared.position.Position.{Position}
use Rattle.readings.specs.declared.routing.Side.TheVariants.{Predecessor, Successor}
use Rattle.readings.specs.Positions.{place_of}
use Rattle.delivery.specs.Hands.{Arrival, kept_by, onward_by, has_successor, handed, to_predecessor, to_successor, delivered}
use Rattle.delivery.specs.Delivery.{Sent}
use Rattle.delivery.proofs.LawsSides.{on-behind, on-ahead}
use Rattle.delivery.proofs.LawsRoutesAt.{keeps_at, has-successor, has-none, trailer-at, towing-at}

-- ---- the vehicles before a place, the nearest first, and so many from a place on, each with what it does with the frame
module _ (number : ℕ) where
  abbrev pub arrival : ℕ → Arrival
  arrival place = record { at = place; kept = keeps_at number place }

  unfoldable pub before : ℕ → List Arrival
  before zero = []
  before (suc place) = arrival place ∷ before place

  unfoldable pub from : ℕ → ℕ → List Arrival
  from place zero = []
  from place (suc more) = arrival place ∷ from (suc place) more

-- ---- a frame that the vehicle q sends
module _ (own : ℕ → ℕ) (n number count : ℕ) (q : Position) (s : Sent own n number count q) where
  behind-is : (hands more place : ℕ) → more ≤ hands → place + more ≡ n → place_of q ≤ place → to_successor own n number count hands place ≡ from number (suc place) more
  unfolding to_successor handed from kept_by onward_by
  behind-is hands zero place h e l = pick-false _ _ (has-none n place (omega arith))
  behind-is zero (suc more) place h e l = absurd (omega arith)
  behind-is (suc hands) (suc more) place h e l =
      let t = trailer-at own n number count q s (suc place) Predecessor (omega arith) (omega arith) (omega arith) in
      pick_true _ _ (has-successor n place (omega arith))
      ∙ rw t (ap (λ (a : List Arrival). arrival number (suc place) ∷ a) (on-behind (has_successor n (suc place)) _ _ ∙ behind-is hands more (suc place) (omega arith) (omega arith) (omega arith)))

  ahead-is : (hands place : ℕ) → place ≤ hands → place ≤ place_of q → to_predecessor own n number count hands place ≡ before number place
  unfolding to_predecessor handed before kept_by onward_by
  ahead-is hands zero h l = refl
  ahead-is zero (suc place) h l = absurd (omega arith)
  ahead-is (suc hands) (suc zero) h l = ap (λ (k : Bool). record { at = 0; kept = k } ∷ []) (towing-at own n number count q s)
  ahead-is (suc hands) (suc (suc place)) h l =
      let t = trailer-at own n number count q s (suc place) Successor (omega arith) (omega (arith, s.within)) (has-successor n (suc place) (omega (arith, s.within)), l) in
      rw t (ap (λ (a : List Arrival). arrival number (suc place) ∷ a) (on-ahead (has_successor n (suc place)) _ _ ∙ ahead-is hands (suc place) (omega arith) (omega arith)))

  -- all arrivals, in their order
  pub delivered-is : (hands : ℕ) → n ≤ hands → delivered own n number count hands q ≡ before number (place_of q) ++ from number (suc (place_of q)) (n - place_of q)
  unfolding delivered
  delivered-is hands enough =
      ap₂ ◌++◌ (ahead-is hands (place_of q) (omega (arith, s.within)) (omega arith)) (behind-is hands (n - place_of q) (place_of q) (omega arith) (omega (arith, s.within)) (omega arith))
