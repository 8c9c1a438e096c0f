-- Which outcome a raw number has: by its high byte, one law a rung, and by itself, both ways; each law once over the width.
use mathlib.Core.Path.{◌≡◌, refl, sym, subst, ◌∙◌}
use mathlib.Core.Bool.{Bool, true, false}
use mathlib.Core.Logic.{◌↔◌}
use Prim.Native.Nat.{ℕ, suc, ◌*◌, ◌/◌, ◌≤◌, ◌<◌, suc-le-suc}
use native.Mathlib.Nat.{div-one, div-lt_iff_lt-mul, le-div_iff_mul-le, le_of_suc-le-suc}
use native.Mathlib.Omega.{arith}
use borrow.Author.Tests.{lt-ltb, le-ltb, le-leb, lt-leb, eq-eqb, ne_eqb, leb-true, leb-false, ltb-true, ltb-false, eqb-true, eqb-false}
use lib.Dec.{leb, eqb, lit<, lit≤}
use Rattle.std.specs.Prelude.{Result, Err}
use Rattle.identifiers.specs.Choice.{pick}
use Rattle.identifiers.specs.Refusals.{refusal}
use Rattle.identifiers.proofs.LawsChoice.{pick_true, pick-false, by-test}
use Rattle.readings.specs.declared.kind.Kind.{Kind}
use Rattle.readings.specs.Kinds.{kind_of, high_byte, span}
use Rattle.readings.specs.Readings.{Says, says_value, says_beyond_range, says_indicator, says_reserved, says_error, says_not_available, says_20, without_value, in_range, measured_by, measured_as, parameter_of}
use Rattle.readings.specs.declared.reading.Measured.{Measured}
use Rattle.identifiers.specs.declared.refusal.Refusal.{Refusal}
use Rattle.readings.specs.declared.reading.Reading.TheVariants.{Reserved, Error, NotAvailable, BeyondRange, Indicator}

-- ---- the outcomes by the high byte, once for every width: one law a rung
module _ (k : Kind) (raw high : ℕ) where
  pub high_value : high ≤ 250 → measured_by k raw high ≡ in_range k raw
  unfolding measured_by
  high_value h = pick_true _ _ (le-leb _ _ h)

  pub high-indicator : high ≡ 251 → measured_by k raw high ≡ without_value Indicator
  unfolding measured_by
  high-indicator h = pick-false _ _ (lt-leb high 250 (omega arith)) ∙ pick_true _ _ (eq-eqb _ _ h)

  past-251 : 251 < high → measured_by k raw high
      ≡ pick (leb high 253) (without_value Reserved) (pick (eqb high 254) (without_value Error) (pick (eqb high 255) (without_value NotAvailable) (Err (refusal 20))))
  unfolding measured_by
  past-251 h = pick-false _ _ (lt-leb high 250 (omega arith)) ∙ pick-false _ _ (ne_eqb high 251 (λ (e : high ≡ 251). omega arith))

  pub high-reserved : 251 < high → high ≤ 253 → measured_by k raw high ≡ without_value Reserved
  high-reserved h l = past-251 h ∙ pick_true _ _ (le-leb _ _ l)

  pub high-error : high ≡ 254 → measured_by k raw high ≡ without_value Error
  high-error h = past-251 (omega arith) ∙ pick-false _ _ (lt-leb high 253 (omega arith)) ∙ pick_true _ _ (eq-eqb _ _ h)

  past-254 : 254 < high → measured_by k raw high ≡ pick (eqb high 255) (without_value NotAvailable) (Err (refusal 20))
  past-254 h = past-251 (omega arith) ∙ pick-false _ _ (lt-leb high 253 (omega arith)) ∙ pick-false _ _ (ne_eqb high 254 (λ (e : high ≡ 254). omega arith))

  pub high-not-available : high ≡ 255 → measured_by k raw high ≡ without_value NotAvailable
  high-not-available h = past-254 (omega arith) ∙ pick_true _ _ (eq-eqb _ _ h)

  pub high-20 : 255 < high → measured_by k raw high ≡ Err (refusal 20)
  high-20 h = past-254 (omega arith) ∙ pick-false _ _ (ne_eqb high 255 (λ (e : high ≡ 255). omega arith))

-- ---- the same of the raw number's own high byte
module _ (k : Kind) (raw : ℕ) where
  pub measured-value : high_byte k.bytes raw ≤ 250 → measured_as k raw ≡ in_range k raw
  unfolding measured_as
  measured-value h = high_value k raw _ h

  pub measured-indicator : high_byte k.bytes raw ≡ 251 → measured_as k raw ≡ without_value Indicator
  unfolding measured_as
  measured-indicator h = high-indicator k raw _ h

  pub measured-reserved : 251 < high_byte k.bytes raw → high_byte k.bytes raw ≤ 253 → measured_as k raw ≡ without_value Reserved
  unfolding measured_as
  measured-reserved h l = high-reserved k raw _ h l

  pub measured-error : high_byte k.bytes raw ≡ 254 → measured_as k raw ≡ without_value Error
  unfolding measured_as
  measured-error h = high-error k raw _ h

  pub measured-not-available : high_byte k.bytes raw ≡ 255 → measured_as k raw ≡ without_value NotAvailable
  unfolding measured_as
  measured-not-available h = high-not-available k raw _ h

  pub measured-20 : 255 < high_byte k.bytes raw → measured_as k raw ≡ Err (refusal 20)
  unfolding measured_as
  measured-20 h = high-20 k raw _ h

pub ruleset measured_rungs = (measured-value, measured-indicator, measured-reserved, measured-error, measured-not-available, measured-20)

-- "raw 126..250 beyond range" of percent load: past the last raw number in range
pub beyond-range : (k : Kind) (raw : ℕ) → k.last < raw → in_range k raw ≡ without_value BeyondRange
unfolding in_range
beyond-range k raw h = pick_true _ _ (lt-ltb _ _ h)

-- 20 "kind over 7"
pub kind-20 : (kind raw : ℕ) → 7 < kind → parameter_of kind raw ≡ Err (refusal 20)
unfolding parameter_of
kind-20 kind raw h = pick_true _ _ (lt-ltb _ _ h)

-- ---- which raw numbers say what, by one law over the width: the high byte is the raw number over the span, which is not 0
over-span : (raw : ℕ) (one : Bool) → (pick one raw (raw / 256) ≡ raw / pick one 1 256) × (0 < pick one 1 256)
unfolding pick
over-span raw true = (sym (div-one raw), lit< tt)
over-span raw false = (refl, lit< tt)

pub high-over-span : (bytes raw : ℕ) → (high_byte bytes raw ≡ raw / span bytes) × (0 < span bytes)
unfolding high_byte span
high-over-span bytes raw = over-span raw (eqb bytes 1)

module _ (k : Kind) (raw : ℕ) where
  abbrev high : ℕ
  high = high_byte k.bytes raw

  below : (n : ℕ) → high < n ↔ raw < n * span k.bytes
  below n = let o = high-over-span k.bytes raw in rw o.0 (div-lt_iff_lt-mul o.1)

  from : (n : ℕ) → n ≤ high ↔ n * span k.bytes ≤ raw
  from n = let o = high-over-span k.bytes raw in rw o.0 (le-div_iff_mul-le o.1)

  is : (n : ℕ) → high ≡ n ↔ (n * span k.bytes ≤ raw) × (raw < suc n * span k.bytes)
  is n = (
    λ (e : high ≡ n). ((from n).0 (omega arith), (below (suc n)).0 (omega arith)),
    λ b. let l : n ≤ high = (from n).1 b.0 in let u : high < suc n = (below (suc n)).1 b.1 in omega arith,
  )

  pub says : Says k raw (measured_as k raw)
  unfolding measured_as measured_by in_range
  says =
      (by-test {P = Says k raw} _
      (λ a. let u = (below 251).0 (suc-le-suc (leb-true _ _ a)) in
      by-test _ (λ b. record { holds = says_beyond_range u (ltb-true _ _ b) }) (λ b. record { holds = says_value u (ltb-false _ _ b) }))
      (λ a. by-test _ (λ b. let e = (is 251).0 (eqb-true _ _ b) in record { holds = says_indicator e.0 e.1 })
      (λ b. by-test _
      (λ c. let l : 250 < high = leb-false _ _ a in let m : high ≡ 251 → ⊥ = eqb-false _ _ b in
      record { holds = says_reserved ((from 252).0 (omega arith)) ((below 254).0 (suc-le-suc (leb-true _ _ c))) })
      (λ c. by-test _ (λ d. let e = (is 254).0 (eqb-true _ _ d) in record { holds = says_error e.0 e.1 })
      (λ d. by-test _ (λ f. let e = (is 255).0 (eqb-true _ _ f) in record { holds = says_not_available e.0 e.1 })
      (λ f. let l : 253 < high = leb-false _ _ c in let m : high ≡ 254 → ⊥ = eqb-false _ _ d in let o : high ≡ 255 → ⊥ = eqb-false _ _ f in
      record { holds = says_20 ((from 256).0 (omega arith)) })))))).holds

  said : {r : Result Measured Refusal} → Says k raw r → measured_as k raw ≡ r
  unfolding measured_as in_range
  said (says_value u h) = high_value k raw high (le_of_suc-le-suc ((below 251).1 u)) ∙ pick-false _ _ (le-ltb _ _ h)
  said (says_beyond_range u h) = high_value k raw high (le_of_suc-le-suc ((below 251).1 u)) ∙ beyond-range k raw h
  said (says_indicator l u) = high-indicator k raw high ((is 251).1 (l, u))
  said (says_reserved l u) = high-reserved k raw high ((from 252).1 l) (le_of_suc-le-suc ((below 254).1 u))
  said (says_error l u) = high-error k raw high ((is 254).1 (l, u))
  said (says_not_available l u) = high-not-available k raw high ((is 255).1 (l, u))
  said (says_20 l) = high-20 k raw high ((from 256).1 l)

-- of every kind of the table, and of every raw number
pub says-exactly : (kind raw : ℕ) → kind ≤ 7 → (r : Result Measured Refusal) → parameter_of kind raw ≡ r ↔ Says (kind_of kind) raw r
unfolding parameter_of
says-exactly kind raw h r =
    let of-kind : parameter_of kind raw ≡ measured_as (kind_of kind) raw = pick-false _ _ (le-ltb _ _ h) in
    (λ e. subst (Says (kind_of kind) raw) (sym of-kind ∙ e) (says (kind_of kind) raw), λ s. of-kind ∙ said (kind_of kind) raw s)

-- 2026-03: "251 (`FB`) is park for the gear, a parameter-specific indicator"
pub park : parameter_of 0 251 ≡ without_value Indicator
unfolding kind_of span pick
park = (says-exactly 0 251 (lit≤ tt) _).1 (says_indicator (lit≤ tt) (lit< tt))
