-- The table of addresses by a formula, both ways: 235 for the towing vehicle, 209 less 8 for each place of a trailer, and no other.
use mathlib.Core.Path.{◌≡◌, refl, sym, ap, ◌∙◌}
use mathlib.Core.Logic.{◌≢◌}
use Prim.Native.Nat.{ℕ, ◌+◌, ◌-◌, ◌*◌, ◌≤◌}
use native.Mathlib.Omega.{arith}
use Rattle.std.specs.Prelude.{Option, Some, None}
use Rattle.identifiers.specs.Choice.{pick}
use Rattle.readings.specs.declared.position.Position.{Position}
use Rattle.readings.specs.declared.position.Position.TheVariants.{Zero, One, Two, Three, Four, Five}
use Rattle.readings.specs.Positions.{place_of, addresses, address_of, positions, position_among, position_of, position_at}
use Rattle.readings.proofs.LawsPositions.{address-back, address-only, place-below, places-differ, place-only, position-none}

-- "position 0 keeps 235"
pub towing-address : (p : Position) → place_of p ≡ 0 → address_of p ≡ 235
unfolding address_of addresses
towing-address p towing = ap address_of (places-differ p Zero towing)

-- "Position p from 1 to 5 has address 209 minus 8p"
pub address-formula : (p : Position) → 1 ≤ place_of p → address_of p ≡ 209 - 8 * place_of p
unfolding address_of addresses
address-formula Zero h = absurd (omega arith)
address-formula One h = refl
address-formula Two h = refl
address-formula Three h = refl
address-formula Four h = refl
address-formula Five h = refl

-- ---- what an address is read as
-- 235 is the towing vehicle's
pub towing-reads : position_of 235 ≡ Some Zero
towing-reads = ap position_of (sym (towing-address Zero refl)) ∙ address-back Zero

-- what is neither 235 nor 209 less 8n for an n from 1 to 5 is no vehicle's
pub others-none : (a : ℕ) → a ≢ 235 → ((n : ℕ) → 1 ≤ n → n ≤ 5 → a + 8 * n ≢ 209) → position_of a ≡ None
others-none a other none = go (position_of a) refl
  where
    go : (v : Option Position) → position_of a ≡ v → position_of a ≡ None
    go (Some p) e =
        let own : a ≡ address_of p = address-only a p e in
        let trailer : place_of p ≢ 0 = λ (towing : place_of p ≡ 0). other (own ∙ towing-address p towing) in
        let some : 1 ≤ place_of p = omega arith in
        let most : place_of p ≤ 5 = omega (arith, place-below p) in
        absurd (none (place_of p) some most (omega (arith, address-formula p some)))
    go None e = e

-- 209 less 8n is that of the position n, past 5 of none
pub formula-reads : (a n : ℕ) → 1 ≤ n → a + 8 * n ≡ 209 → position_of a ≡ position_at n
formula-reads a n some sum = go (position_at n) refl
  where
    go : (v : Option Position) → position_at n ≡ v → position_of a ≡ position_at n
    go (Some q) e =
        let place : place_of q ≡ n = place-only n q e in
        let own : a ≡ address_of q = omega (arith, address-formula q (omega arith)) in
        ap position_of own ∙ address-back q ∙ sym e
    go None e = others-none a (omega arith) (λ k (least : 1 ≤ k) (most : k ≤ 5) (h : a + 8 * k ≡ 209). omega (arith, position-none n e)) ∙ sym e

-- worked by the table: before the first, between two, behind the last
pub worked : (position_of 209 ≡ None) × (position_of 200 ≡ None) × (position_of 161 ≡ None)
unfolding position_of position_among positions address_of addresses pick
worked = (refl, refl, refl)
