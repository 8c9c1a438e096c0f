-- Refusals 2 to 10 of a frame by itself, and 12, 9, 13 and 14 of a consecutive frame, exactly where document 01 gives them: where its own check fails and all before it hold.
use Rattle.std.proofs.Common.{◌≡◌, ℕ, ◌≤◌, false, ◌↔◌, List, refl, ap, ◌∙◌, subst, arith, lit≤, ltb-false, ltb-true, le-ltb, lt-ltb, eq-eqb, ne_eqb, eqb-true, Result, Ok, Err}
use borrow.Author.Tests.{eqb-false}
use Rattle.identifiers.specs.Refusals.{refusal, number_of}
use Rattle.identifiers.specs.declared.refusal.Refusal.{Refusal}
use Rattle.identifiers.proofs.LawsChoice.{Holds, by-test, pick_true, pick-false}
use Rattle.readings.specs.declared.position.Position.{Position}
use Rattle.receiver.specs.declared.reception.Reception.{Reception}
use Rattle.receiver.specs.declared.outcome.Outcome.{Outcome}
use Rattle.receiver.specs.declared.outcome.Outcome.TheVariants as outcome
use Rattle.receiver.specs.Receptions.{closed}
use Rattle.receiver.specs.Frames.{judged_from, judged_of}
use Rattle.receiver.specs.Steps.{Step, leaving, closing, done_of, left_of, taken_step, followed}
use Rattle.receiver.specs.Names.{Names, misaddressed, names_9, names_10, NamesNext, names_12, names_short, names_13, names_14}
use Rattle.receiver.proofs.LawsAddressings.{misaddressed-exactly}
use Rattle.receiver.proofs.LawsCarried.{carried-9, carried-10}
use Rattle.receiver.proofs.LawsFrames.{fair}
use Rattle.receiver.proofs.LawsKinds.{judged-carried}

abbrev told : Step → Result Outcome Refusal
told s = s.outcome

module _ (own : Position) (unit n : ℕ) (bytes : List ℕ) where
  named-so : {why : Refusal} → Names own unit n bytes why → judged_of own unit n bytes ≡ Err why
  unfolding judged_of judged_from
  named-so (misaddressed x) = ap (judged_from bytes) ((misaddressed-exactly own unit n bytes _).1 x)
  named-so (names_9 {p} {functional} a x) = judged-carried own unit n bytes p functional a ∙ carried-9 bytes p functional x
  named-so (names_10 {p} a two e) = judged-carried own unit n bytes p false a ∙ carried-10 bytes p false refl two e

  -- "Lowest first": a frame is refused with this number exactly where it names the frame
  pub refused-exactly : (why : Refusal) → judged_of own unit n bytes ≡ Err why ↔ Names own unit n bytes why
  refused-exactly why = (fair own unit n bytes _, named-so)

-- ---- a physical consecutive frame, by its vehicle's reception
module _ (r : Reception) (from : Position) (number count stamp : ℕ) where
  -- what a step says where it refuses
  abbrev Named : Step → Type 0
  Named s = (why : Refusal) → s.outcome ≡ Err why → NamesNext r number count stamp why

  refuses : (x : Reception) (why : Refusal) → NamesNext r number count stamp why → Holds Named (leaving x (Err why))
  unfolding leaving
  refuses x why n = record { holds = λ other (e : Err why ≡ Err other). subst (NamesNext r number count stamp) (cc) n }

  takes : Holds Named (taken_step r from stamp)
  unfolding taken_step
  takes =
      by-test _ (λ a. record { holds = λ why (e : Ok (outcome.Taken from) ≡ Err why). let z : ◌≡◌ {A = ℕ} 0 1 = cc in absurd (omega arith) })
      (λ a. record { holds = λ why (e : Ok (outcome.Train from r.length) ≡ Err why). let z : ◌≡◌ {A = ℕ} 0 1 = cc in absurd (omega arith) })

  named-next : Holds Named (followed r from number count stamp)
  unfolding followed closing left_of done_of
  named-next =
      by-test _ (λ a. refuses r (refusal 12) (names_12 (eqb-true _ _ a)))
      (λ a. by-test _ (λ b. refuses r (refusal 9) (names_short (eqb-false _ _ a) (ltb-true _ _ b)))
      (λ b. by-test _
      (λ c. by-test _ (λ d. refuses closed (refusal 14) (names_14 (eqb-false _ _ a) (ltb-false _ _ b) (eqb-true _ _ c) (ltb-true _ _ d))) (λ d. takes))
      (λ c. refuses closed (refusal 13) (names_13 (eqb-false _ _ a) (ltb-false _ _ b) (eqb-false _ _ c)))))

  next-so : {why : Refusal} → NamesNext r number count stamp why → (followed r from number count stamp).outcome ≡ Err why
  unfolding followed closing leaving left_of done_of
  next-so (names_12 a) = ap told (pick_true _ _ (eq-eqb _ _ a))
  next-so (names_short a b) = ap told (pick-false _ _ (ne_eqb _ _ a) ∙ pick_true _ _ (lt-ltb _ _ b))
  next-so (names_13 a b c) = ap told (pick-false _ _ (ne_eqb _ _ a) ∙ pick-false _ _ (le-ltb _ _ b) ∙ pick-false _ _ (ne_eqb _ _ c))
  next-so (names_14 a b c d) = ap told (pick-false _ _ (ne_eqb _ _ a) ∙ pick-false _ _ (le-ltb _ _ b) ∙ pick_true _ _ (eq-eqb _ _ c) ∙ pick_true _ _ (lt-ltb _ _ d))

  pub next-number : {why : Refusal} → NamesNext r number count stamp why → 9 ≤ number_of why
  next-number (names_12 a) = lit≤ tt
  next-number (names_short a b) = lit≤ tt
  next-number (names_13 a b c) = lit≤ tt
  next-number (names_14 a b c d) = lit≤ tt

  -- 12, then 9, 13 and 14, each exactly where it is due
  pub followed-exactly : (why : Refusal) → (followed r from number count stamp).outcome ≡ Err why ↔ NamesNext r number count stamp why
  followed-exactly why = (named-next.holds why, next-so)
