-- What the sender's neighbours make of its frame decides all arrivals: what holds of their hands holds of what is sent.
use mathlib.Core.Path.{◌≡◌, refl, sym, ap₂, ◌∙◌}
use mathlib.Core.Bool.{true}
use mathlib.Core.List.{List, [], ◌++◌}
use Prim.Native.Nat.{ℕ, zero, suc}
use Rattle.readings.specs.declared.position.Position.{Position}
use Rattle.readings.specs.declared.routing.Side.TheVariants.{Predecessor, Successor}
use Rattle.readings.specs.Positions.{place_of}
use Rattle.delivery.specs.Hands.{Arrival, has_successor, handed, to_predecessor, to_successor, delivered}
use Rattle.delivery.proofs.LawsSides.{picked}

-- ---- of two frames, each with its number of hands: what holds of nothing, and of the neighbour's hands, holds of what the sender hands to that side
module _ (own : ℕ → ℕ) (n number other count hands more : ℕ) (R : List Arrival → List Arrival → Type 0) (none : R [] []) where
  pub to-predecessor : (place : ℕ) → ((p : ℕ) → place ≡ suc p → R (handed own n number count hands p Successor) (handed own n other count more p Successor))
      → R (to_predecessor own n number count hands place) (to_predecessor own n other count more place)
  unfolding to_predecessor
  to-predecessor zero some = none
  to-predecessor (suc p) some = some p refl

  pub to-successor : (place : ℕ) → (has_successor n place ≡ true → R (handed own n number count hands (suc place) Predecessor) (handed own n other count more (suc place) Predecessor))
      → R (to_successor own n number count hands place) (to_successor own n other count more place)
  unfolding to_successor
  to-successor place = picked R none (has_successor n place) _ _

-- ---- where one list is the other, changed part by part, all arrivals are
module _ (own : ℕ → ℕ) (n number other count hands more : ℕ) (change : List Arrival → List Arrival) (none : change [] ≡ []) (parts : (a b : List Arrival) → change (a ++ b) ≡ change a ++ change b) where
  abbrev Changed : List Arrival → List Arrival → Type 0
  Changed a b = a ≡ change b

  pub by-neighbours : (q : Position) → ((p : ℕ) → place_of q ≡ suc p → Changed (handed own n number count hands p Successor) (handed own n other count more p Successor))
      → (has_successor n (place_of q) ≡ true → Changed (handed own n number count hands (suc (place_of q)) Predecessor) (handed own n other count more (suc (place_of q)) Predecessor))
      → delivered own n number count hands q ≡ change (delivered own n other count more q)
  unfolding delivered
  by-neighbours q ahead behind =
      ap₂ ◌++◌ (to-predecessor own n number other count hands more Changed (sym none) (place_of q) ahead) (to-successor own n number other count hands more Changed (sym none) (place_of q) behind)
      ∙ sym (parts (to_predecessor own n other count more (place_of q)) (to_successor own n other count more (place_of q)))
