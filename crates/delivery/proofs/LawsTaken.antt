-- Trailers that have taken their addresses, each from the vehicle before it, are at their right ones.
use mathlib.Core.Path.{◌≡◌, refl, sym, ap, ◌∙◌}
use Prim.Native.Nat.{ℕ, zero, suc, ◌≤◌, ◌<◌}
use native.Mathlib.Omega.{arith}
use Rattle.std.specs.Prelude.{Option, Some, None, Ok, Err}
use Rattle.identifiers.specs.Refusals.{refusal}
use Rattle.readings.specs.declared.position.Position.{Position}
use Rattle.readings.specs.Positions.{place_of, address_of, successor_of, taken_after}
use Rattle.readings.proofs.LawsPositions.{address-back, successor-place, after_last, after_next}
use Rattle.delivery.specs.Delivery.{Taken}

-- the position that is taken is the next one
taken_next : (p q : Position) → taken_after (address_of p) ≡ Ok q → place_of q ≡ suc (place_of p)
taken_next p q e = go (successor_of p) refl
  where
    go : (v : Option Position) → successor_of p ≡ v → place_of q ≡ suc (place_of p)
    go None none = let d : Err (refusal 15) ≡ Ok q = sym (after_last (address_of p) p (address-back p) none) ∙ e in let z : ◌≡◌ {A = ℕ} 0 1 = cc in absurd (omega arith)
    go (Some r) next =
        let d : Ok r ≡ Ok q = sym (after_next (address_of p) p r (address-back p) next) ∙ e in
        let same : r ≡ q = cc in
        sym (ap place_of same) ∙ successor-place p r next ∙ omega arith

-- from the towing vehicle on, the own position of each is its place
pub all_right : (own : ℕ → ℕ) (n : ℕ) → own 0 ≡ 0 → ((place : ℕ) → place < n → Taken own place) → (place : ℕ) → place ≤ n → own place ≡ place
all_right own n towing taken zero most = towing
all_right own n towing taken (suc place) most =
    let t = taken place (omega arith) in
    let before : place_of t.before ≡ place = t.own_before ∙ all_right own n towing taken place (omega arith) in
    sym t.own_itself ∙ taken_next t.before t.itself t.taken ∙ ap (λ (k : ℕ). suc k) before
