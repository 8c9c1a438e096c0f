-- What comes to one place: to each ahead of the sender and behind it once, and to no other.
use mathlib.Core.Path.{◌≡◌, refl, ap, ap₂, ◌∙◌}
use mathlib.Core.Bool.{Bool, true, false}
use mathlib.Core.List.{List, [], ◌∷◌, ◌++◌}
use Prim.Native.Nat.{ℕ, zero, suc, ◌+◌, ◌≤◌, ◌<◌}
use native.Mathlib.Omega.{arith}
use borrow.Author.Tests.{eq-eqb, ne_eqb, eqb-true, eqb-false}
use lib.Dec.{eqb}
use Rattle.identifiers.specs.Choice.{pick}
use Rattle.identifiers.proofs.LawsChoice.{pick_true, pick-false}
use Rattle.delivery.specs.Hands.{Arrival}
use Rattle.delivery.specs.Delivery.{comes_to}
use Rattle.delivery.proofs.LawsRoutesAt.{keeps_at}
use Rattle.delivery.proofs.LawsHands.{arrival, before, from}

-- ---- the first comes to that place, or to another; and two lists in a row
comes-here : (place : ℕ) (a : Arrival) (arrivals : List Arrival) → a.at ≡ place → comes_to place (a ∷ arrivals) ≡ a.kept ∷ comes_to place arrivals
unfolding comes_to
comes-here place a arrivals e = pick_true _ _ (eq-eqb a.at place e)

pub comes-else : (place : ℕ) (a : Arrival) (arrivals : List Arrival) → (a.at ≡ place → ⊥) → comes_to place (a ∷ arrivals) ≡ comes_to place arrivals
unfolding comes_to
comes-else place a arrivals e = pick-false _ _ (ne_eqb a.at place e)

-- what holds in both cases holds
pub comes-cases : (P : List Bool → Type 0) (place : ℕ) (a : Arrival) (arrivals : List Arrival) → (a.at ≡ place → P (a.kept ∷ comes_to place arrivals)) → ((a.at ≡ place → ⊥) → P (comes_to place arrivals))
    → P (comes_to place (a ∷ arrivals))
comes-cases P place a arrivals f g = go (eqb a.at place) refl
  where
    go : (t : Bool) → eqb a.at place ≡ t → P (comes_to place (a ∷ arrivals))
    go true t = let e = eqb-true a.at place t in rw (comes-here place a arrivals e) (f e)
    go false t = let e = eqb-false a.at place t in rw (comes-else place a arrivals e) (g e)

pub comes-append : (place : ℕ) (a b : List Arrival) → comes_to place (a ++ b) ≡ comes_to place a ++ comes_to place b
unfolding comes_to pick
comes-append place [] b = refl
comes-append place (x ∷ a) b = go (eqb x.at place) (comes-append place a b)
  where
    go : (t : Bool) → comes_to place (a ++ b) ≡ comes_to place a ++ comes_to place b
        → pick t (x.kept ∷ comes_to place (a ++ b)) (comes_to place (a ++ b)) ≡ pick t (x.kept ∷ comes_to place a) (comes_to place a) ++ comes_to place b
    go true e = ap (λ (l : List Bool). x.kept ∷ l) e
    go false e = e

-- ---- ahead of the sender, and from a place on
module _ (number : ℕ) where
  -- to the first and then no more, or to one of the rest
  comes-once : (place first : ℕ) (rest : List Arrival) → (first ≡ place → comes_to place rest ≡ []) → ((first ≡ place → ⊥) → comes_to place rest ≡ keeps_at number place ∷ [])
      → comes_to place (arrival number first ∷ rest) ≡ keeps_at number place ∷ []
  comes-once place first rest f g = comes-cases (λ l. l ≡ keeps_at number place ∷ []) place (arrival number first) rest (λ (e : first ≡ place). ap₂ ◌∷◌ (ap (keeps_at number) e) (f e)) g

  pub not-before : (top place : ℕ) → top ≤ place → comes_to place (before number top) ≡ []
  unfolding before comes_to
  not-before zero place l = refl
  not-before (suc top) place l = comes-else place (arrival number top) (before number top) (λ (e : top ≡ place). omega arith) ∙ not-before top place (omega arith)

  pub before-once : (top place : ℕ) → place < top → comes_to place (before number top) ≡ keeps_at number place ∷ []
  unfolding before
  before-once zero place l = absurd (omega arith)
  before-once (suc top) place l =
      comes-once place top (before number top) (λ (e : top ≡ place). not-before top place (omega arith)) (λ (e : top ≡ place → ⊥). before-once top place (omega (arith, e)))

  pub not-from : (more first place : ℕ) → (first ≤ place → place < first + more → ⊥) → comes_to place (from number first more) ≡ []
  unfolding from comes_to
  not-from zero first place h = refl
  not-from (suc more) first place h =
      comes-else place (arrival number first) (from number (suc first) more) (λ (e : first ≡ place). h (omega arith) (omega arith))
      ∙ not-from more (suc first) place (λ (l : suc first ≤ place) (m : place < suc first + more). h (omega arith) (omega arith))

  pub from-once : (more first place : ℕ) → first ≤ place → place < first + more → comes_to place (from number first more) ≡ keeps_at number place ∷ []
  unfolding from
  from-once zero first place l m = absurd (omega arith)
  from-once (suc more) first place l m =
      comes-once place first (from number (suc first) more) (λ (e : first ≡ place). not-from more (suc first) place (λ (k : suc first ≤ place) j. omega arith))
      (λ (e : first ≡ place → ⊥). from-once more (suc first) place (omega (arith, e)) (omega arith))
