-- Of every kind and every raw number: what is read as a value is exact, by one law over the divisor, the offset and the width.
use mathlib.Core.Path.{◌≡◌, refl, sym, ap, subst, ◌∙◌}
use mathlib.Core.List.{List, [], ◌∷◌}
use Prim.Native.Nat.{ℕ, zero, suc, ◌*◌, ◌^◌, ◌≤◌, ◌<◌}
use native.Mathlib.Omega.{arith}
use borrow.Author.Tests.{le-ltb}
use lib.Dec.{T, leb, ltb, lit<, lit≤}
use lib.IntN.{ℤ, pos, nat_abs, sub_ℕ}
use lib.Ieee.{Float, binary32, to_bits}
use lib.ListN.{get_or, get_or-eq_default}
use Rattle.std.specs.Prelude.{Result, Ok, Err}
use Rattle.identifiers.specs.Refusals.{refusal}
use Rattle.identifiers.proofs.LawsChoice.{pick_true, pick-false, was-passed, was-taken, Holds, by-test}
use Rattle.readings.specs.declared.kind.Kind.{Kind}
use Rattle.readings.specs.declared.reading.Measured.{Measured}
use Rattle.readings.specs.declared.reading.TwoBits.TheVariants as bits
use Rattle.readings.specs.Fractions.{fraction, Exact}
use Rattle.readings.specs.Kinds.{kinds, kind_of, kind_numbered, whole_of, Sound}
use Rattle.readings.specs.Readings.{Says, says_value, says_beyond_range, says_indicator, says_reserved, says_error, says_not_available, says_20, without_value, valued, in_range, measured_as, parameter_of, two_bits_of, value_of}
use Rattle.readings.specs.Readings.{zero as +0}
use Rattle.readings.proofs.LawsOutcomes.{says}
use Rattle.readings.proofs.LawsFractions.{fraction-exact}
use Rattle.readings.proofs.LawsWholes.{whole_is, size-sub}
use Rattle.identifiers.specs.declared.refusal.Refusal.{Refusal}
use Rattle.readings.specs.declared.reading.Reading.{Reading}
use Rattle.readings.specs.declared.reading.Reading.TheVariants.{Value, Reserved, Error, NotAvailable, BeyondRange, Indicator}

-- ---- every row of the table is sound: four tests, computed
by_tests : (k : Kind) (e : ℕ) → k.divisor ≡ 2 ^ e → T (leb e 15) → T (ltb (k.below * k.divisor) (2 ^ 15)) → T (ltb k.last (2 ^ 16)) → Sound k
by_tests k e p t b l = record { power = record { exponent = e; small = lit≤ t; power = p }; base = lit< b; last = lit< l }

-- what the entries of a table keep, and its default too, is kept at every index
abbrev Each : (Kind → Type 0) → List Kind → Type 0
Each P [] = Unit
Each P (k ∷ l) = P k × Each P l

each_at : (P : Kind → Type 0) (l : List Kind) (d : Kind) → Each P l → P d → (n : ℕ) → P (get_or l n d)
each_at P [] d a p n = p
each_at P (k ∷ l) d a p zero = a.0
each_at P (k ∷ l) d a p (suc n) = each_at P l d a.1 p n

pub kinds-sound : (n : ℕ) → Sound (kind_of n)
unfolding kind_of
kinds-sound =
    each_at Sound kinds _
    (by_tests _ 0 refl tt tt tt, (by_tests _ 0 refl tt tt tt, (by_tests _ 0 refl tt tt tt, (by_tests _ 0 refl tt tt tt, (by_tests _ 8 refl tt tt tt, (by_tests _ 3 refl tt tt tt, (by_tests _ 0 refl tt tt tt, (by_tests _ 5 refl tt tt tt, tt))))))))
    (by_tests _ 5 refl tt tt tt)

-- a number's kind, or 20: each reading of that number is the kind's, or 20
module _ (n : ℕ) where
  pub kind-known : (k : Kind) → kind_numbered n ≡ Ok k → k ≡ kind_of n
  unfolding kind_numbered
  kind-known k e = let p = was-passed (ltb 7 n) (Err (refusal 20)) (Ok (kind_of n)) (Ok k) (λ f. cc) e in cc

  pub kind-sound : (k : Kind) → kind_numbered n ≡ Ok k → Sound k
  kind-sound k e = subst Sound (sym (kind-known k e)) (kinds-sound n)

  pub kind-read : (k : Kind) (raw : ℕ) → kind_numbered n ≡ Ok k → measured_as k raw ≡ parameter_of n raw
  unfolding kind_numbered parameter_of
  kind-read k raw e =
      let p = was-passed (ltb 7 n) (Err (refusal 20)) (Ok (kind_of n)) (Ok k) (λ f. cc) e in
      ap (λ (j : Kind). measured_as j raw) (kind-known k e) ∙ sym (pick-false _ _ p.0)

  pub kind-unread : (why : Refusal) (raw : ℕ) → kind_numbered n ≡ Err why → Err why ≡ parameter_of n raw
  unfolding kind_numbered parameter_of
  kind-unread why raw e =
      let p = was-taken (ltb 7 n) (Err (refusal 20)) (Ok (kind_of n)) (Err why) (λ f. cc) e in
      let w : why ≡ refusal 20 = cc in
      ap Err w ∙ sym (pick_true _ _ p.0)

pub value-of : (k : Kind) (raw : ℕ) → raw ≤ k.last
    → in_range k raw ≡ Ok (record { reading = Value (fraction (sub_ℕ raw (k.below * k.divisor)) k.divisor); whole = sub_ℕ raw (k.below * k.divisor) })
unfolding in_range valued
value-of k raw h = pick-false _ _ (le-ltb _ _ h) ∙ rw (whole_is k raw)

-- ---- what is read is right: a value is exact with its whole number beside it, and all else is 0 twice
pub record Right (k : Kind) (raw : ℕ) (m : Measured) : Type 0 where
  pub exact : (x : Float) → m.reading ≡ Value x → (m.whole ≡ whole_of k raw) × Exact x m.whole k.divisor
  pub other : ((x : Float) → m.reading ≡ Value x → ⊥) → (m.whole ≡ pos 0) × (value_of m.reading ≡ +0)

abbrev RightRead : Kind → ℕ → Result Measured Refusal → Type 0
RightRead k raw (Ok m) = Right k raw m
RightRead k raw (Err why) = why ≡ refusal 20

-- over any sound kind, whatever its width, divisor and offset
whole-exact : (k : Kind) → Sound k → (raw : ℕ) → raw ≤ k.last → Exact (fraction (whole_of k raw) k.divisor) (whole_of k raw) k.divisor
whole-exact k S raw h =
    let P = S.power in
    let small : nat_abs (whole_of k raw) < 2 ^ 24 =
    subst (λ (z : ℤ). nat_abs z < 2 ^ 24) (sym (whole_is k raw)) (size-sub raw (k.below * k.divisor) (2 ^ 24) (omega (arith, S.last)) (omega (arith, S.base))) in
    subst (λ (d : ℕ). Exact (fraction (whole_of k raw) d) (whole_of k raw) d) (sym P.power) (fraction-exact (whole_of k raw) P.exponent small (omega (arith, P.small)))

valued-right : (k : Kind) → Sound k → (raw : ℕ) → raw ≤ k.last → Holds (RightRead k raw) (valued k raw)
unfolding valued
valued-right k S raw h =
    record {
      holds = record {
        exact = λ x e. (refl, subst (λ (y : Float). Exact y (whole_of k raw) k.divisor) (cc) (whole-exact k S raw h));
        other = λ n. absurd (n _ refl);
      };
    }

without-value-right : (k : Kind) (raw : ℕ) (r : Reading) → value_of r ≡ +0 → ((x : Float) → r ≡ Value x → ⊥) → Holds (RightRead k raw) (without_value r)
unfolding without_value
without-value-right k raw r z n = record { holds = record { exact = λ x e. absurd (n x e); other = λ _. (refl, z) } }

said-right : (k : Kind) → Sound k → (raw : ℕ) (r : Result Measured Refusal) → Says k raw r → Holds (RightRead k raw) r
said-right k S raw r (says_value u h) = valued-right k S raw h
said-right k S raw r (says_beyond_range u h) = without-value-right k raw BeyondRange refl (λ x e. cc)
said-right k S raw r (says_indicator l u) = without-value-right k raw Indicator refl (λ x e. cc)
said-right k S raw r (says_reserved l u) = without-value-right k raw Reserved refl (λ x e. cc)
said-right k S raw r (says_error l u) = without-value-right k raw Error refl (λ x e. cc)
said-right k S raw r (says_not_available l u) = without-value-right k raw NotAvailable refl (λ x e. cc)
said-right k S raw r (says_20 l) = record { holds = refl }

-- every reading of every kind
pub readings-exact : (kind raw : ℕ) (m : Measured) → parameter_of kind raw ≡ Ok m → Right (kind_of kind) raw m
unfolding parameter_of
readings-exact kind raw m e =
    let h : RightRead (kind_of kind) raw (parameter_of kind raw) =
    (by-test {P = RightRead (kind_of kind) raw} (ltb 7 kind) {x = Err (refusal 20)} (λ a. record { holds = refl }) (λ a. said-right (kind_of kind) (kinds-sound kind) raw _ (says (kind_of kind) raw))).holds in
    rw e at h

-- ---- two bits
-- "0 no, 1 yes, 2 error, 3 not available"
pub two-bits-are : (two_bits_of 0 ≡ Ok bits.No) × ((two_bits_of 1 ≡ Ok bits.Yes) × ((two_bits_of 2 ≡ Ok bits.Error) × (two_bits_of 3 ≡ Ok bits.NotAvailable)))
unfolding two_bits_of
two-bits-are = (refl, (refl, (refl, refl)))

pub two-bits-20 : (raw : ℕ) → 4 ≤ raw → two_bits_of raw ≡ Err (refusal 20)
unfolding two_bits_of
two-bits-20 raw h = get_or-eq_default (Ok bits.No ∷ Ok bits.Yes ∷ Ok bits.Error ∷ Ok bits.NotAvailable ∷ []) (Err (refusal 20)) h

-- ---- the 0 that stands for no value is +0, four bytes of 0; the sign of a value that is 0 is that of its whole number, by `readings-exact`
pub zero_bits : to_bits binary32 +0 ≡ 0
unfolding to_bits
zero_bits = refl
