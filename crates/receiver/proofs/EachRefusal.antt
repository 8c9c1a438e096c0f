-- Every refusal of a frame that is offered to a node, exactly where document 01 gives it: 2 to 10 of the frame by itself, and 12, 9, 13, 14 of a consecutive frame.
use Rattle.std.proofs.Common.{◌≡◌, ℕ, ◌≤◌, ◌↔◌, List, length, sym, refl, ap, ◌∙◌, arith, Result, Ok, Err}
use Rattle.identifiers.specs.Refusals.{number_of}
use Rattle.identifiers.specs.declared.refusal.Refusal.{Refusal}
use Rattle.readings.specs.Positions.{place_of}
use Rattle.readings.specs.declared.position.Position.{Position}
use Rattle.receiver.specs.declared.frame.Judged.{Judged}
use Rattle.receiver.specs.declared.frame.Judged.TheVariants as judged
use Rattle.receiver.specs.declared.outcome.Outcome.{Outcome}
use Rattle.receiver.specs.declared.outcome.Outcome.TheVariants.{OverLong, Opened, Single}
use Rattle.receiver.specs.Nodes.{Node, reception_at}
use Rattle.receiver.specs.Frames.{judged_of}
use Rattle.receiver.specs.Steps.{leaving, closing, opened, step_of, judged_place}
use Rattle.receiver.specs.Receiving.{Received, received_of}
use Rattle.receiver.specs.Names.{Refuses, by_itself, by_reception}
use Rattle.receiver.proofs.LawsFrames.{fair, refused-number}
use Rattle.receiver.proofs.LawsKinds.{consecutive-is}
use Rattle.receiver.proofs.LawsRungs.{refused-exactly, next-number, followed-exactly}
use Rattle.receiver.proofs.LawsReceived.{Ready, received_is}

module _ (own : Position) (n : Node) (identifier : ℕ) (bytes : List ℕ) (stamp : ℕ) where
  abbrev frame : Result Judged Refusal
  frame = judged_of own n.unit identifier bytes

  abbrev outcome_by : Result Judged Refusal → Result Outcome Refusal
  outcome_by j = (step_of (reception_at n (judged_place j)) j (length bytes) stamp).outcome

  -- ---- what the step of a judged frame refuses: 2 to 10 and 12 to 14, each where it is due
  which : (why : Refusal) (j : Result Judged Refusal) → frame ≡ j → outcome_by j ≡ Err why → Refuses own n identifier bytes stamp why
  unfolding step_of opened closing leaving
  which why (Err other) f =
      λ (e : Err other ≡ Err why).
      let same : other ≡ why = cc in
      by_itself ((refused-exactly own n.unit identifier bytes why).0 (f ∙ ap Err same))
  which why (Ok (judged.Single p functional L)) f = λ (e : Ok (Single p functional L) ≡ Err why). let z : ◌≡◌ {A = ℕ} 0 1 = cc in absurd (omega arith)
  which why (Ok (judged.First p L)) f = λ (e : Ok (Opened p) ≡ Err why). let z : ◌≡◌ {A = ℕ} 0 1 = cc in absurd (omega arith)
  which why (Ok (judged.OverLong p)) f = λ (e : Ok (OverLong p) ≡ Err why). let z : ◌≡◌ {A = ℕ} 0 1 = cc in absurd (omega arith)
  which why (Ok (judged.Consecutive p number)) f =
      λ e. let x = fair own n.unit identifier bytes _ f in
      by_reception x.0 x.1 ((followed-exactly _ p number (length bytes) stamp why).0 e)

  so-refused : (why : Refusal) → Refuses own n identifier bytes stamp why → outcome_by frame ≡ Err why
  unfolding step_of leaving
  so-refused why (by_itself x) = ap outcome_by ((refused-exactly own n.unit identifier bytes why).1 x)
  so-refused why (by_reception {p} {number} a c x) =
      ap outcome_by ((consecutive-is own n.unit identifier bytes p number).1 (a, c)) ∙ (followed-exactly _ p number (length bytes) stamp why).1 x

  pub step-refuses : (why : Refusal) → outcome_by frame ≡ Err why ↔ Refuses own n identifier bytes stamp why
  step-refuses why = (which why frame refl, so-refused why)

  -- none of them is 1
  pub refuses-number : {why : Refusal} → Refuses own n identifier bytes stamp why → 2 ≤ number_of why
  refuses-number {why} (by_itself x) = (refused-number own n.unit identifier bytes why ((refused-exactly own n.unit identifier bytes why).1 x)).0
  refuses-number (by_reception {p} {number} a c x) = omega (arith, next-number (reception_at n (place_of p)) p number (length bytes) stamp x)

  -- ---- and of every node that keeps its rules, held with a buffer of 1,536 bytes
  module _ (buffer : List ℕ) (ready : Ready n (length buffer) own) where
    received-by : (received_of n buffer identifier bytes stamp).outcome ≡ outcome_by frame
    received-by = ap (λ (r : Received). r.outcome) (received_is n buffer own n.unit ready.sound ready.fits ready.at refl identifier bytes stamp)

    pub refuses-exactly : (why : Refusal) → (received_of n buffer identifier bytes stamp).outcome ≡ Err why ↔ Refuses own n identifier bytes stamp why
    refuses-exactly why = (λ e. (step-refuses why).0 (sym received-by ∙ e), λ x. received-by ∙ (step-refuses why).1 x)
