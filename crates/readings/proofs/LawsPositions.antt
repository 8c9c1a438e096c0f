-- The address of a position reads back to it and only the six addresses do; neighbours are one place apart; what address a node takes.
use mathlib.Core.Path.{◌≡◌, refl, sym, ap, ◌∙◌}
use mathlib.Core.Bool.{Bool, true, false}
use mathlib.Core.List.{List, [], ◌∷◌}
use mathlib.Core.Logic.{◌⊎◌, inl, inr}
use Prim.Native.Nat.{ℕ, zero, suc, ◌+◌, ◌-◌, ◌≤◌, ◌<◌}
use native.Mathlib.Omega.{arith}
use lib.Dec.{eqb, lit<}
use lib.ListN.{get_or-eq_default}
use borrow.Author.Tests.{eqb-true, eqb-false, eq-eqb, ne_eqb}
use Rattle.std.specs.Prelude.{Option, Some, None, Ok, Err}
use Rattle.std.specs.Option.{ok_or}
use Rattle.identifiers.specs.Choice.{pick}
use Rattle.identifiers.specs.Refusals.{refusal}
use Rattle.identifiers.specs.declared.refusal.Refusal.{Refusal}
use Rattle.identifiers.proofs.LawsChoice.{pick_true, pick-false, was-passed}
use Rattle.readings.specs.declared.position.Position.{Position}
use Rattle.readings.specs.declared.position.Position.TheVariants.{Zero, One, Two, Three, Four, Five}
use Rattle.readings.specs.Positions.{place_of, addresses, global, address_of, positions, position_among, position_of, position_at, trailer_at, successor_of, predecessor_of, next_of, taken_as, taken_after}

-- ---- the table of addresses, both ways
-- the address of a position reads back to it: so no two are alike
pub address-back : (p : Position) → position_of (address_of p) ≡ Some p
unfolding position_of position_among positions address_of addresses pick
address-back Zero = refl
address-back One = refl
address-back Two = refl
address-back Three = refl
address-back Four = refl
address-back Five = refl

among-only : (ps : List Position) (a : ℕ) (p : Position) → position_among ps a ≡ Some p → a ≡ address_of p
unfolding position_among pick
among-only [] a p e = cc
among-only (q ∷ ps) a p e = go (eqb a (address_of q)) refl e (λ k. among-only ps a p k)
  where
    go : (t : Bool) → eqb a (address_of q) ≡ t → pick t (Some q) (position_among ps a) ≡ Some p → (position_among ps a ≡ Some p → a ≡ address_of p) → a ≡ address_of p
    go true h k r = let same : q ≡ p = cc in eqb-true a (address_of q) h ∙ ap address_of same
    go false h k r = r k

-- an address that reads as a position is its own
pub address-only : (a : ℕ) (p : Position) → position_of a ≡ Some p → a ≡ address_of p
unfolding position_of
address-only a p e = among-only positions a p e

pub addresses-differ : (p q : Position) → address_of p ≡ address_of q → p ≡ q
addresses-differ p q e =
    let h : Some p ≡ Some q = sym (address-back p) ∙ ap position_of e ∙ address-back q in
    cc

pub global-is-none : position_of global ≡ None
unfolding position_of position_among positions address_of addresses pick
global-is-none = refl

-- an address is a byte
pub address-byte : (p : Position) → address_of p < 256
unfolding address_of addresses
address-byte Zero = lit< tt
address-byte One = lit< tt
address-byte Two = lit< tt
address-byte Three = lit< tt
address-byte Four = lit< tt
address-byte Five = lit< tt

-- ---- places
pub place-back : (p : Position) → position_at (place_of p) ≡ Some p
unfolding position_at
place-back Zero = refl
place-back One = refl
place-back Two = refl
place-back Three = refl
place-back Four = refl
place-back Five = refl

pub place-below : (p : Position) → place_of p < 6
place-below Zero = lit< tt
place-below One = lit< tt
place-below Two = lit< tt
place-below Three = lit< tt
place-below Four = lit< tt
place-below Five = lit< tt

pub position_past : (n : ℕ) → 6 ≤ n → position_at n ≡ None
unfolding position_at
position_past n h = get_or-eq_default (Some Zero ∷ Some One ∷ Some Two ∷ Some Three ∷ Some Four ∷ Some Five ∷ []) None h

-- a number that is no position's is over 5
pub position-none : (n : ℕ) → position_at n ≡ None → 5 < n
unfolding position_at
position-none zero e = let z : ◌≡◌ {A = ℕ} 0 1 = cc in absurd (omega arith)
position-none (suc zero) e = let z : ◌≡◌ {A = ℕ} 0 1 = cc in absurd (omega arith)
position-none (suc (suc zero)) e = let z : ◌≡◌ {A = ℕ} 0 1 = cc in absurd (omega arith)
position-none (suc (suc (suc zero))) e = let z : ◌≡◌ {A = ℕ} 0 1 = cc in absurd (omega arith)
position-none (suc (suc (suc (suc zero)))) e = let z : ◌≡◌ {A = ℕ} 0 1 = cc in absurd (omega arith)
position-none (suc (suc (suc (suc (suc zero))))) e = let z : ◌≡◌ {A = ℕ} 0 1 = cc in absurd (omega arith)
position-none (suc (suc (suc (suc (suc (suc n)))))) e = omega arith

-- positions are told apart by their places
pub places-differ : (p q : Position) → place_of p ≡ place_of q → p ≡ q
places-differ p q e = let h : Some p ≡ Some q = sym (place-back p) ∙ ap position_at e ∙ place-back q in cc

same_place : (p q : Position) → Some p ≡ Some q → place_of q ≡ place_of p
same_place p q e = let h : p ≡ q = cc in ap place_of (sym h)

-- a number that is a position's is its place
pub place-only : (n : ℕ) (q : Position) → position_at n ≡ Some q → place_of q ≡ n
unfolding position_at
place-only zero q e = same_place Zero q e
place-only (suc zero) q e = same_place One q e
place-only (suc (suc zero)) q e = same_place Two q e
place-only (suc (suc (suc zero))) q e = same_place Three q e
place-only (suc (suc (suc (suc zero)))) q e = same_place Four q e
place-only (suc (suc (suc (suc (suc zero))))) q e = same_place Five q e
place-only (suc (suc (suc (suc (suc (suc n)))))) q e = cc

pub not_none : (p : Position) → None ≡ Some p → ⊥
not_none p e = let z : ◌≡◌ {A = ℕ} 0 1 = cc in omega arith

-- a trailer's position is 1 to 5, and each of them is
pub trailer-place : (n : ℕ) (p : Position) → trailer_at n ≡ Some p → (place_of p ≡ n) × (1 ≤ n)
unfolding trailer_at
trailer-place n p e =
    let h = was-passed _ _ _ _ (not_none p) e in
    let some : n ≡ 0 → ⊥ = eqb-false n 0 h.0 in
    (place-only n p h.1, omega arith)

pub trailer-back : (p : Position) → 1 ≤ place_of p → trailer_at (place_of p) ≡ Some p
unfolding trailer_at
trailer-back p h = pick-false _ _ (ne_eqb (place_of p) 0 (λ (e : place_of p ≡ 0). omega arith)) ∙ place-back p

pub trailer-no : (n : ℕ) → (n < 1) ⊎ (5 < n) → trailer_at n ≡ None
unfolding trailer_at
trailer-no n (inl h) = let z : n ≡ 0 = omega arith in pick_true _ _ (eq-eqb _ _ z)
trailer-no n (inr h) = pick-false _ _ (ne_eqb n 0 (λ (z : n ≡ 0). omega arith)) ∙ position_past n h

pub trailer-none : (n : ℕ) → 1 ≤ n → trailer_at n ≡ None → 5 < n
unfolding trailer_at
trailer-none n h e = position-none n (sym (pick-false _ _ (ne_eqb n 0 (λ (z : n ≡ 0). omega arith))) ∙ e)

-- ---- neighbours: one place further on, one place before
pub successor-place : (p q : Position) → successor_of p ≡ Some q → place_of q ≡ place_of p + 1
unfolding successor_of
successor-place p q e = place-only (place_of p + 1) q e

pub first-predecessor : (p : Position) → place_of p ≡ 0 → predecessor_of p ≡ None
unfolding predecessor_of
first-predecessor p h = pick_true _ _ (eq-eqb _ _ h)

pub next-predecessor : (p : Position) → 1 ≤ place_of p → predecessor_of p ≡ position_at (place_of p - 1)
unfolding predecessor_of
next-predecessor p h = pick-false _ _ (ne_eqb _ _ (omega arith))

pub predecessor-place : (p q : Position) → predecessor_of q ≡ Some p → place_of p + 1 ≡ place_of q
unfolding predecessor_of
predecessor-place p q e =
    let h = was-passed _ _ _ _ (not_none p) e in
    let some : place_of q ≡ 0 → ⊥ = eqb-false (place_of q) 0 h.0 in
    omega (arith, place-only (place_of q - 1) p h.1)

-- the predecessor of the successor, and the other way round
pub successor-predecessor : (p q : Position) → successor_of p ≡ Some q → predecessor_of q ≡ Some p
unfolding predecessor_of
successor-predecessor p q e =
    let s : place_of q ≡ place_of p + 1 = successor-place p q e in
    let less : place_of q - 1 ≡ place_of p = omega arith in
    pick-false _ _ (ne_eqb (place_of q) 0 (λ (z : place_of q ≡ 0). omega arith)) ∙ ap position_at less ∙ place-back p

pub predecessor-successor : (p q : Position) → predecessor_of q ≡ Some p → successor_of p ≡ Some q
unfolding successor_of
predecessor-successor p q e = ap position_at (predecessor-place p q e) ∙ place-back q

-- ---- the address that a node takes
pub after_none : (a : ℕ) → position_of a ≡ None → taken_after a ≡ Err (refusal 15)
unfolding taken_after next_of taken_as
after_none a e = ap (λ (v : Option Position). taken_as (next_of v)) e

pub after_last : (a : ℕ) (p : Position) → position_of a ≡ Some p → successor_of p ≡ None → taken_after a ≡ Err (refusal 15)
unfolding taken_after next_of taken_as
after_last a p e s = ap (λ (v : Option Position). taken_as (next_of v)) e ∙ ap taken_as s

pub after_next : (a : ℕ) (p q : Position) → position_of a ≡ Some p → successor_of p ≡ Some q → taken_after a ≡ Ok q
unfolding taken_after next_of taken_as
after_next a p q e s = ap (λ (v : Option Position). taken_as (next_of v)) e ∙ ap taken_as s

taken-is : (v : Option Position) → taken_as v ≡ ok_or v (refusal 15)
unfolding taken_as
taken-is (Some p) = refl
taken-is None = refl

pub after-is : (a : ℕ) (p : Position) → position_of a ≡ Some p → taken_after a ≡ ok_or (successor_of p) (refusal 15)
unfolding taken_after next_of
after-is a p e = ap (λ (v : Option Position). taken_as (next_of v)) e ∙ taken-is (successor_of p)

-- 15 is the only refusal
only-15 : (v : Option Position) (why : Refusal) → taken_as v ≡ Err why → why ≡ refusal 15
unfolding taken_as
only-15 (Some p) why e = cc
only-15 None why e = cc

pub after-15 : (a : ℕ) (why : Refusal) → taken_after a ≡ Err why → why ≡ refusal 15
unfolding taken_after
after-15 a why e = only-15 (next_of (position_of a)) why e
