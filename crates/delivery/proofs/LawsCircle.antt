-- Whatever stands in a frame, two numbers of hands that are not below that of the trailers make the same arrivals.
use mathlib.Core.Path.{◌≡◌, refl, ap}
use mathlib.Core.Bool.{true}
use mathlib.Core.List.{List, ◌∷◌}
use Prim.Native.Nat.{ℕ, zero, suc, ◌+◌, ◌-◌, ◌≤◌, ◌<◌}
use native.Mathlib.Omega.{arith}
use Rattle.readings.specs.declared.position.Position.{Position}
use Rattle.readings.specs.declared.routing.Side.{Side}
use Rattle.readings.specs.declared.routing.Side.TheVariants.{Predecessor, Successor}
use Rattle.readings.specs.Positions.{place_of}
use Rattle.delivery.specs.Hands.{Arrival, kept_by, has_successor, route_at, handed, delivered}
use Rattle.delivery.proofs.LawsRoutesAt.{before-the-last}
use Rattle.delivery.proofs.LawsNeighbours.{by-neighbours}
use Rattle.delivery.proofs.LawsSides.{next, HasNext, goes}

-- from a place on there are no more vehicles than so many, on the side to which the frame goes
abbrev Left : ℕ → Side → ℕ → ℕ → Type 0
Left n Successor place more = place ≤ more
Left n Predecessor place more = n ≤ place + more

left-next : (n p more : ℕ) (side : Side) → Left n side (suc p) more → HasNext n side p → (less : ℕ) × (more ≡ suc less) × Left n side (next side p) less
left-next n p zero Successor l h = absurd (omega arith)
left-next n p zero Predecessor l h = absurd (let k = before-the-last n (suc p) h in omega arith)
left-next n p (suc less) Successor l h = (less, refl, omega arith)
left-next n p (suc less) Predecessor l h = (less, refl, omega arith)

module _ (own : ℕ → ℕ) (n number count : ℕ) where
  ends_on : (a b more place : ℕ) (side : Side) → Left n side place more → more < a → more < b → handed own n number count a place side ≡ handed own n number count b place side
  unfolding handed
  ends_on zero b more place side l m k = absurd (omega arith)
  ends_on (suc a) zero more place side l m k = absurd (omega arith)
  ends_on (suc a) (suc b) more zero side l m k = refl
  ends_on (suc a) (suc b) more (suc p) side l m k =
      ap (λ (rest : List Arrival). record { at = suc p; kept = kept_by (route_at own n number count (suc p) side) } ∷ rest)
      (goes own n number count ◌≡◌ refl side a b p (λ (h : HasNext n side p). let x = left-next n p more side l h in ends_on a b x.0 (next side p) side x.2 (omega (arith, x.1)) (omega (arith, x.1))))

  pub ends : (a b : ℕ) (q : Position) → place_of q ≤ n → n ≤ a → n ≤ b → delivered own n number count a q ≡ delivered own n number count b q
  ends a b q within l m =
      by-neighbours own n number number count a b (λ arrivals. arrivals) refl (λ x y. refl) q (λ p (e : place_of q ≡ suc p). ends_on a b p p Successor (omega arith) (omega arith) (omega arith))
      (λ (h : has_successor n (place_of q) ≡ true). let k = before-the-last n (place_of q) h in ends_on a b (n - suc (place_of q)) (suc (place_of q)) Predecessor (omega arith) (omega arith) (omega arith))
