-- What is known of every judged frame, by its identifier and its bytes: what one has that checks 2 to 10 let through, and which check one fails that they refuse.
use Rattle.std.proofs.Common.{◌≡◌, ℕ, ◌/◌, ◌%◌, ◌≤◌, Bool, false, ◌≢◌, List, length, get_or, refl, subst, arith, lit≤, ltb-false, ltb-true, eqb-true, Result, Ok, Err}
use borrow.Author.Tests.{eqb-false}
use Rattle.identifiers.specs.Refusals.{number_of}
use Rattle.identifiers.specs.declared.refusal.Refusal.{Refusal}
use Rattle.identifiers.proofs.LawsChoice.{Holds, by-test}
use Rattle.readings.specs.declared.position.Position.{Position}
use Rattle.receiver.specs.declared.addressing.Addressing.{Addressing}
use Rattle.receiver.specs.declared.frame.Judged.{Judged}
use Rattle.receiver.specs.declared.frame.Judged.TheVariants.{Single, First, OverLong, Consecutive}
use Rattle.receiver.specs.Addressings.{addressing_of}
use Rattle.receiver.specs.Frames.{single_of, first_length, first_of, carried_of, judged_from, judged_of}
use Rattle.receiver.specs.Wire.{Addressed, IsSingle, IsFirst, IsOverLong, IsConsecutive}
use Rattle.receiver.specs.Names.{no_second, single_of_none, single_over_six, single_short, functional_not_single, first_short, first_under_seven, no_kind, Names, misaddressed, names_9, names_10}
use Rattle.receiver.proofs.LawsAddressings.{FairAddressing, fair-addressing, misaddressed-number}

-- what is known of a frame that is judged so
abbrev pub Fair : Position → ℕ → ℕ → List ℕ → Result Judged Refusal → Type 0
Fair own unit n bytes (Err why) = Names own unit n bytes why
Fair own unit n bytes (Ok (Single p functional L)) = Addressed own unit n bytes p functional × IsSingle bytes L
Fair own unit n bytes (Ok (First p L)) = Addressed own unit n bytes p false × IsFirst bytes L
Fair own unit n bytes (Ok (OverLong p)) = Addressed own unit n bytes p false × IsOverLong bytes
Fair own unit n bytes (Ok (Consecutive p number)) = Addressed own unit n bytes p false × IsConsecutive bytes number

module _ (own : Position) (unit n : ℕ) (bytes : List ℕ) where
  abbrev Judges : Result Judged Refusal → Type 0
  Judges j = Holds (Fair own unit n bytes) j

  refused : {why : Refusal} → Names own unit n bytes why → Judges (Err why)
  refused x = record { holds = x }

  -- ---- what a frame that passes has, and which check one fails that does not
  fair-single : (p : Position) (functional : Bool) → Addressed own unit n bytes p functional → 2 ≤ length bytes → get_or bytes 1 0 / 16 ≡ 0
      → Judges (single_of p functional (get_or bytes 1 0 % 16) (length bytes))
  unfolding single_of
  fair-single p functional a two e =
      by-test _ (λ i. refused (names_9 a (single_of_none two e (eqb-true _ _ i))))
      (λ i. by-test _ (λ j. refused (names_9 a (single_over_six two e (ltb-true _ _ j))))
      (λ j. by-test _ (λ k. refused (names_9 a (single_short two e (ltb-true _ _ k))))
      (λ k. let some : get_or bytes 1 0 % 16 ≢ 0 = eqb-false _ _ i in
      record { holds = (a, record { high = e; low = refl; least = omega arith; most = ltb-false _ _ j; room = ltb-false _ _ k }) })))

  fair-first : (p : Position) → Addressed own unit n bytes p false → 2 ≤ length bytes → get_or bytes 1 0 / 16 ≡ 1 → Judges (first_of p bytes)
  unfolding first_of first_length
  fair-first p a two e =
      by-test _ (λ i. refused (names_9 a (first_short two refl e (ltb-true _ _ i))))
      (λ i. by-test _ (λ j. refused (names_9 a (first_under_seven refl e (ltb-false _ _ i) (ltb-true _ _ j))))
      (λ j. by-test _ (λ k. record { holds = (a, record { high = e; room = ltb-false _ _ i; over = ltb-true _ _ k }) })
      (λ k. record { holds = (a, record { high = e; room = ltb-false _ _ i; named = refl; least = ltb-false _ _ j; most = ltb-false _ _ k }) })))

  high_half : get_or bytes 1 0 / 16 ≢ 0 → get_or bytes 1 0 / 16 ≢ 1 → get_or bytes 1 0 / 16 ≢ 2 → get_or bytes 1 0 / 16 ≢ 3 → 4 ≤ get_or bytes 1 0 / 16
  high_half a b c d = omega arith

  fair-carried : (p : Position) (functional : Bool) → Addressed own unit n bytes p functional → Judges (carried_of p functional bytes)
  unfolding carried_of
  fair-carried p functional a =
      by-test _ (λ e. refused (names_9 a (no_second (ltb-true _ _ e))))
      (λ e. let two = ltb-false _ _ e in
      by-test _ (λ i. fair-single p functional a two (eqb-true _ _ i))
      (λ i. by-test _ (λ d. refused (names_9 a (functional_not_single two d (eqb-false _ _ i))))
      (λ d. let b = subst (Addressed own unit n bytes p) d a in
      by-test _ (λ j. fair-first p b two (eqb-true _ _ j))
      (λ j. by-test _ (λ k. record { holds = (b, record { high = eqb-true _ _ k; low = refl; room = two }) })
      (λ k. by-test _ (λ l. refused (names_10 b two (eqb-true _ _ l)))
      (λ l. refused (names_9 b (no_kind two refl (high_half (eqb-false _ _ i) (eqb-false _ _ j) (eqb-false _ _ k) (eqb-false _ _ l))))))))))

  fair-from : (a : Result Addressing Refusal) → FairAddressing own unit n bytes a → Fair own unit n bytes (judged_from bytes a)
  unfolding judged_from
  fair-from (Err why) x = misaddressed x
  fair-from (Ok a) x = (fair-carried a.from a.functional x).holds

  pub fair : (j : Result Judged Refusal) → judged_of own unit n bytes ≡ j → Fair own unit n bytes j
  unfolding judged_of
  fair j e = subst (Fair own unit n bytes) e (fair-from _ (fair-addressing own unit n bytes (addressing_of own unit n bytes) refl))

  -- what is refused so has a number from 2 to 10
  pub refused-number : (why : Refusal) → judged_of own unit n bytes ≡ Err why → (2 ≤ number_of why) × (number_of why ≤ 10)
  refused-number why e = by (fair _ e)
    where
      by : {why : Refusal} → Names own unit n bytes why → (2 ≤ number_of why) × (number_of why ≤ 10)
      by (misaddressed x) = let k = misaddressed-number own unit n bytes x in (k.0, omega (arith, k.1))
      by (names_9 a x) = (lit≤ tt, lit≤ tt)
      by (names_10 a b c) = (lit≤ tt, lit≤ tt)
