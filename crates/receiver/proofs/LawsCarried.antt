-- What a frame carries, checks 9 and 10, rung by rung.
use Rattle.std.proofs.Common.{◌≡◌, ℕ, ◌+◌, ◌*◌, ◌/◌, ◌%◌, ◌≤◌, Bool, false, eqb, ◌≢◌, List, length, get_or, refl, ◌∙◌, arith, ltb-false, le-ltb, lt-ltb, eq-eqb, ne_eqb, Result, Ok, Err}
use borrow.Author.Tests.{eqb-false}
use Rattle.identifiers.specs.Choice.{pick}
use Rattle.identifiers.specs.Refusals.{refusal}
use Rattle.identifiers.proofs.LawsChoice.{by-test, pick_true, pick-false}
use Rattle.identifiers.specs.declared.refusal.Refusal.{Refusal}
use Rattle.readings.specs.declared.position.Position.{Position}
use Rattle.receiver.specs.declared.frame.Judged.{Judged}
use Rattle.receiver.specs.declared.frame.Judged.TheVariants.{Consecutive}
use Rattle.receiver.specs.Frames.{first_length, first_of, single_of, carried_of}
use Rattle.receiver.specs.Names.{Malformed, no_second, single_of_none, single_over_six, single_short, functional_not_single, first_short, first_under_seven, no_kind}

abbrev Nine : Result Judged Refusal → Type 0
Nine j = j ≡ Err (refusal 9)

module _ (bytes : List ℕ) where
  abbrev high : ℕ
  high = get_or bytes 1 0 / 16

  -- ---- where a single or a first frame is refused
  single-nine : (p : Position) (functional : Bool) → (get_or bytes 1 0 % 16 ≢ 0 → get_or bytes 1 0 % 16 ≤ 6 → 2 + get_or bytes 1 0 % 16 ≤ length bytes → ⊥)
      → single_of p functional (get_or bytes 1 0 % 16) (length bytes) ≡ Err (refusal 9)
  unfolding single_of
  single-nine p functional x =
      (by-test {P = Nine} _ (λ a. record { holds = refl })
      (λ a. by-test _ (λ b. record { holds = refl }) (λ b. by-test _ (λ c. record { holds = refl }) (λ c. absurd (x (eqb-false _ _ a) (ltb-false _ _ b) (ltb-false _ _ c)))))).holds

  first-nine : (p : Position) → (8 ≤ length bytes → 7 ≤ get_or bytes 1 0 % 16 * 256 + get_or bytes 2 0 → ⊥) → first_of p bytes ≡ Err (refusal 9)
  unfolding first_of first_length
  first-nine p x =
      (by-test {P = Nine} _ (λ a. record { holds = refl }) (λ a. by-test _ (λ b. record { holds = refl }) (λ b. absurd (x (ltb-false _ _ a) (ltb-false _ _ b))))).holds

  -- ---- the rungs: a single frame, a physical one that is not single, and where 9 and 10 are due
  module _ (p : Position) (functional : Bool) where
    pub single-carried : 2 ≤ length bytes → high ≡ 0 → carried_of p functional bytes ≡ single_of p functional (get_or bytes 1 0 % 16) (length bytes)
    unfolding carried_of
    single-carried two e = pick-false _ _ (le-ltb _ _ two) ∙ pick_true _ _ (eq-eqb _ _ e)

    pub physical-carried : 2 ≤ length bytes → functional ≡ false → high ≢ 0
        → carried_of p functional bytes ≡ pick (eqb high 1) (first_of p bytes) (pick (eqb high 2) (Ok (Consecutive p (get_or bytes 1 0 % 16))) (pick (eqb high 3) (Err (refusal 10)) (Err (refusal 9))))
    unfolding carried_of
    physical-carried two d z = pick-false _ _ (le-ltb _ _ two) ∙ pick-false _ _ (ne_eqb _ _ z) ∙ pick-false _ _ d

    pub carried-9 : Malformed functional bytes → carried_of p functional bytes ≡ Err (refusal 9)
    unfolding carried_of
    carried-9 (no_second h) = pick_true _ _ (lt-ltb _ _ h)
    carried-9 (single_of_none two e z) = single-carried two e ∙ single-nine p functional (λ a b c. a z)
    carried-9 (single_over_six two e h) = single-carried two e ∙ single-nine p functional (λ a b c. omega arith)
    carried-9 (single_short two e h) = single-carried two e ∙ single-nine p functional (λ a b c. omega arith)
    carried-9 (functional_not_single two d z) = pick-false _ _ (le-ltb _ _ two) ∙ pick-false _ _ (ne_eqb _ _ z) ∙ pick_true _ _ d
    carried-9 (first_short two d e h) = physical-carried two d (λ (z : high ≡ 0). omega arith) ∙ pick_true _ _ (eq-eqb _ _ e) ∙ first-nine p (λ a b. omega arith)
    carried-9 (first_under_seven d e r h) = physical-carried (omega arith) d (λ (z : high ≡ 0). omega arith) ∙ pick_true _ _ (eq-eqb _ _ e) ∙ first-nine p (λ a b. omega arith)
    carried-9 (no_kind two d h) =
        physical-carried two d (λ (z : high ≡ 0). omega arith)
        ∙ pick-false _ _ (ne_eqb high 1 (λ (z : high ≡ 1). omega arith))
        ∙ pick-false _ _ (ne_eqb high 2 (λ (z : high ≡ 2). omega arith))
        ∙ pick-false _ _ (ne_eqb high 3 (λ (z : high ≡ 3). omega arith))

    pub carried-10 : functional ≡ false → 2 ≤ length bytes → high ≡ 3 → carried_of p functional bytes ≡ Err (refusal 10)
    carried-10 d two e =
        physical-carried two d (λ (z : high ≡ 0). omega arith)
        ∙ pick-false _ _ (ne_eqb high 1 (λ (z : high ≡ 1). omega arith))
        ∙ pick-false _ _ (ne_eqb high 2 (λ (z : high ≡ 2). omega arith))
        ∙ pick_true _ _ (eq-eqb _ _ e)
