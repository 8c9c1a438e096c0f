-- One frame: what each outcome changes, and that every refusal leaves the buffer, and the node too but for the reception that 11, 13 and 14 close.
use Rattle.std.specs.Prelude.{Option, Some, None}
use Rattle.std.proofs.Common.{◌≡◌, ℕ, ◌%◌, ◌^◌, ◌≤◌, Bool, true, false, ◌≢◌, List, length, sym, refl, ap, ◌∙◌, subst, arith, ne_eqb, Result, Ok, Err}
use mathlib.Core.Bool.{false≢true}
use Rattle.identifiers.specs.Choice.{pick, either}
use Rattle.identifiers.specs.Refusals.{refusal, number_of}
use Rattle.identifiers.specs.declared.refusal.Refusal.{Refusal}
use Rattle.identifiers.proofs.LawsChoice.{Holds, by-test, pick_true, pick-false, right-decides}
use Rattle.identifiers.proofs.LawsBytes.{written_none}
use Rattle.identifiers.proofs.LawsIdentifiers.{source_is}
use Rattle.readings.specs.Positions.{place_of, position_of}
use Rattle.readings.specs.declared.position.Position.{Position}
use Rattle.readings.proofs.LawsPositions.{address-back}
use Rattle.receiver.specs.declared.reception.Reception.{Reception}
use Rattle.receiver.specs.declared.frame.Judged.{Judged}
use Rattle.receiver.specs.declared.frame.Judged.TheVariants as judged
use Rattle.receiver.specs.declared.outcome.Outcome.{Outcome}
use Rattle.receiver.specs.declared.outcome.Outcome.TheVariants.{OverLong, Opened, Taken, Single, Train}
use Rattle.receiver.specs.Receptions.{closed}
use Rattle.receiver.specs.Frames.{judged_of}
use Rattle.receiver.specs.Outcomes.{nothing_told, outcome_told}
use Rattle.receiver.specs.Steps.{Step, leaving, closing, opened, taken_step, followed, behind_single, step_of, written_by, judged_place}
use Rattle.receiver.specs.Receiving.{step_by, own_of, judged_at, judged_by, moved_by, moved_of, stored_in, received_of, buffer_after}
use Rattle.receiver.specs.Nodes.{Node, reception_at, with_reception}
use Rattle.receiver.specs.Changes.{closes, Does, Changes, Leaves}
use Rattle.receiver.specs.Wire.{Addressed}
use Rattle.receiver.proofs.LawsNodes.{put_back}
use Rattle.receiver.proofs.LawsFrames.{fair, refused-number}

-- ---- what each outcome changes
abbrev By : Reception → List ℕ → ℕ → Step → Type 0
By r bytes stamp s = Changes r bytes stamp s s.outcome

does-nothing : (r x : Reception) (o : Result Outcome Refusal) → x ≡ r → Does (leaving x o) 0 0 0 r
unfolding leaving
does-nothing r x o e = record { written_at = refl; read_from = refl; bytes = refl; reception = e }

low_keeps : (number : ℕ) → number ≤ 10 → closes number ≡ false
unfolding closes
low_keeps number h =
    sym (right-decides (ne_eqb number 11 (λ (e : number ≡ 11). omega arith))
    (right-decides (ne_eqb number 13 (λ (e : number ≡ 13). omega arith)) (sym (ne_eqb number 14 (λ (e : number ≡ 14). omega arith)))))

module _ (r : Reception) (bytes : List ℕ) (stamp : ℕ) where
  refused-keeps : (why : Refusal) → closes (number_of why) ≡ false → Holds (By r bytes stamp) (leaving r (Err why))
  unfolding leaving
  refused-keeps why e = record { holds = does-nothing _ r (Err why) (sym (pick-false closed r e)) }

  refused-shuts : (why : Refusal) → closes (number_of why) ≡ true → Holds (By r bytes stamp) (closing (Err why))
  unfolding closing leaving
  refused-shuts why e = record { holds = does-nothing _ closed (Err why) (sym (pick_true closed r e)) }

  changes-taken : (from : Position) → Holds (By r bytes stamp) (taken_step r from stamp)
  unfolding taken_step
  changes-taken from =
      by-test _ (λ a. record { holds = record { written_at = refl; read_from = refl; bytes = refl; reception = refl } })
      (λ a. record { holds = record { written_at = refl; read_from = refl; bytes = refl; reception = refl } })

  changes-followed : (from : Position) (number : ℕ) → Holds (By r bytes stamp) (followed r from number (length bytes) stamp)
  unfolding followed closes either
  changes-followed from number =
      by-test _ (λ a. refused-keeps (refusal 12) refl)
      (λ a. by-test _ (λ b. refused-keeps (refusal 9) refl)
      (λ b. by-test _ (λ d. by-test _ (λ e. refused-shuts (refusal 14) refl) (λ e. changes-taken from)) (λ d. refused-shuts (refusal 13) refl)))

  changes-judged : (own : Position) (unit identifier : ℕ) (j : Result Judged Refusal) → judged_of own unit identifier bytes ≡ j → By r bytes stamp (step_of r j (length bytes) stamp)
  unfolding step_of opened closing leaving
  changes-judged own unit identifier (Err why) f = (refused-keeps why (low_keeps _ (refused-number own unit identifier bytes why f).1)).holds
  changes-judged own unit identifier (Ok (judged.Single from functional L)) f = does-nothing (behind_single r functional) (behind_single r functional) (Ok (Single from functional L)) refl
  changes-judged own unit identifier (Ok (judged.First from L)) f =
      record { written_at = refl; read_from = refl; bytes = refl; reception = rw (fair own unit identifier bytes _ f).1.named }
  changes-judged own unit identifier (Ok (judged.OverLong from)) f = does-nothing closed closed (Ok (OverLong from)) refl
  changes-judged own unit identifier (Ok (judged.Consecutive from number)) f = (changes-followed from number).holds

-- of every frame and every reception
pub what-changes : (own : Position) (unit identifier : ℕ) (bytes : List ℕ) (r : Reception) (stamp : ℕ)
    → let s = step_of r (judged_of own unit identifier bytes) (length bytes) stamp in Changes r bytes stamp s s.outcome
what-changes own unit identifier bytes r stamp = changes-judged r bytes stamp own unit identifier (judged_of own unit identifier bytes) refl

-- ---- what a refusal leaves
nothing_written : (buffer : List ℕ) (s : Step) (bytes : List ℕ) → s.at ≡ 0 → s.start ≡ 0 → s.count ≡ 0 → written_by buffer s bytes ≡ buffer
unfolding written_by
nothing_written buffer s bytes a b c = rw (a, b, c) (written_none buffer 0)

module _ (n : Node) (buffer : List ℕ) (identifier : ℕ) (bytes : List ℕ) (stamp number : ℕ) (some : number ≢ 0) where
  -- a step of the vehicle p, whose address is the frame's SA
  module _ (p : Position) (by_source : position_of (identifier % 2 ^ 8) ≡ Some p) (s : Step) where
    abbrev Left : Type 0
    Left = Leaves n buffer identifier number (with_reception n (place_of p) s.reception) (written_by buffer s bytes)

    left : (t : Bool) → closes number ≡ t → Does s 0 0 0 (pick t closed (reception_at n (place_of p))) → Left
    unfolding pick
    left true c d = record {
      buffer_stays = nothing_written buffer s bytes d.written_at d.read_from d.bytes;
      node_stays = λ e. absurd (false≢true (sym e ∙ c));
      node_closes = λ e. record { vehicle = p; by_source = by_source; closed_there = ap (with_reception n (place_of p)) d.reception };
    }
    left false c d = record {
      buffer_stays = nothing_written buffer s bytes d.written_at d.read_from d.bytes;
      node_stays = λ e. ap (with_reception n (place_of p)) d.reception ∙ put_back n (place_of p);
      node_closes = λ e. absurd (false≢true (sym c ∙ e));
    }

    step-leaves : (o : Result Outcome Refusal) → Changes (reception_at n (place_of p)) bytes stamp s o → (outcome_told o).refusal ≡ number → Left
    unfolding outcome_told nothing_told closes either pick
    step-leaves (Err why) d e = left (closes number) refl (subst (λ (k : ℕ). Does s 0 0 0 (pick (closes k) closed (reception_at n (place_of p)))) e d)
    step-leaves (Ok (OverLong from)) d e = left true (ap closes (sym e)) d
    step-leaves (Ok (Opened from)) d e = absurd (some (sym e))
    step-leaves (Ok (Taken from)) d e = absurd (some (sym e))
    step-leaves (Ok (Single from functional L)) d e = absurd (some (sym e))
    step-leaves (Ok (Train from L)) d e = absurd (some (sym e))

  -- refusals 1 to 10 leave all as found
  pub as-found : number ≤ 10 → Leaves n buffer identifier number n buffer
  as-found h = record { buffer_stays = refl; node_stays = λ e. refl; node_closes = λ e. absurd (false≢true (sym (low_keeps number h) ∙ e)) }

  source : {own : Position} {unit : ℕ} {p : Position} {functional : Bool} → Addressed own unit identifier bytes p functional → position_of (identifier % 2 ^ 8) ≡ Some p
  source {p = p} a = ap position_of (sym (source_is identifier) ∙ a.source) ∙ address-back p

  abbrev step_from : ℕ → Result Judged Refusal → Step
  step_from place j = step_of (reception_at n place) j (length bytes) stamp

  abbrev LeavesBy : ℕ → Step → Type 0
  LeavesBy place s = (outcome_told s.outcome).refusal ≡ number → Leaves n buffer identifier number (with_reception n place s.reception) (written_by buffer s bytes)

  of-vehicle : (own p : Position) (j : Result Judged Refusal) → judged_of own n.unit identifier bytes ≡ j → position_of (identifier % 2 ^ 8) ≡ Some p → LeavesBy (place_of p) (step_from (place_of p) j)
  of-vehicle own p j f by_source =
      let s = step_from (place_of p) j in
      step-leaves p by_source s s.outcome (changes-judged (reception_at n (place_of p)) bytes stamp own n.unit identifier j f)

  unnamed : (why : Refusal) → number_of why ≤ 10 → LeavesBy 0 (step_from 0 (Err why))
  unfolding step_of leaving outcome_told nothing_told
  unnamed why h e =
      let low : number ≤ 10 = rw e at h in
      rw (put_back n 0, nothing_written buffer (leaving (reception_at n 0) (Err why)) bytes refl refl refl) (as-found low)

  judged-leaves : (own : Position) (j : Result Judged Refusal) → judged_of own n.unit identifier bytes ≡ j → LeavesBy (judged_place j) (step_from (judged_place j) j)
  judged-leaves own (Err why) f = unnamed why (refused-number own n.unit identifier bytes why f).1
  judged-leaves own (Ok (judged.Single p functional L)) f = of-vehicle own p _ f (source (fair own n.unit identifier bytes _ f).0)
  judged-leaves own (Ok (judged.First p L)) f = of-vehicle own p _ f (source (fair own n.unit identifier bytes _ f).0)
  judged-leaves own (Ok (judged.OverLong p)) f = of-vehicle own p _ f (source (fair own n.unit identifier bytes _ f).0)
  judged-leaves own (Ok (judged.Consecutive p k)) f = of-vehicle own p _ f (source (fair own n.unit identifier bytes _ f).0)

  leaves_at : (v : Option Position) → let j = judged_at n identifier bytes v in LeavesBy (judged_place j) (step_by n j bytes stamp)
  unfolding judged_at step_by
  leaves_at None = unnamed (refusal 1) (omega arith)
  leaves_at (Some own) = judged-leaves own _ refl

  -- "A refusal .. leaves state and buffers as found; 11, 13 and 14 close that vehicle's reception": of every node, buffer and frame
  pub refusal-leaves : (outcome_told (received_of n buffer identifier bytes stamp).outcome).refusal ≡ number
      → Leaves n buffer identifier number (received_of n buffer identifier bytes stamp).node (buffer_after n buffer identifier bytes stamp)
  unfolding received_of stored_in moved_of moved_by judged_by buffer_after
  refusal-leaves = leaves_at (own_of n (length buffer))
