-- The shown message: for every outcome the bytes that its numbers point to, and exactly as many as they say.
use Rattle.std.specs.Prelude.{Option, Some, None}
use Rattle.std.proofs.Common.{◌≡◌, ℕ, ◌+◌, ◌*◌, ◌≤◌, Bool, ltb, List, length, drop, refl, ◌∙◌, arith, length-drop, length-take-le, Result, Ok, Err}
use Rattle.identifiers.specs.Choice.{pick}
use Rattle.identifiers.specs.declared.refusal.Refusal.{Refusal}
use Rattle.identifiers.proofs.LawsChoice.{Holds, by-test}
use Rattle.readings.specs.Positions.{place_of}
use Rattle.readings.specs.declared.position.Position.{Position}
use Rattle.readings.proofs.LawsPositions.{place-below}
use Rattle.receiver.specs.declared.reception.Reception.{Reception}
use Rattle.receiver.specs.declared.frame.Judged.{Judged}
use Rattle.receiver.specs.declared.frame.Judged.TheVariants as judged
use Rattle.receiver.specs.declared.outcome.Outcome.{Outcome}
use Rattle.receiver.specs.declared.outcome.Outcome.TheVariants.{OverLong, Opened, Taken, Single, Train}
use Rattle.receiver.specs.Receptions.{closed, buffer_length, region_at}
use Rattle.receiver.specs.Frames.{judged_of}
use Rattle.receiver.specs.Outcomes.{due_of, nothing_told, outcome_told}
use Rattle.receiver.specs.Steps.{Step, leaving, closing, opened, left_of, taken_step, followed, behind_single, step_of, written_by, judged_place}
use Rattle.receiver.specs.Receiving.{step_by, own_of, judged_at, judged_by, moved_by, moved_of, stored_in, received_of, buffer_after}
use Rattle.receiver.specs.Nodes.{Node, reception_at}
use Rattle.receiver.specs.Shown.{shown_of, told_message}
use Rattle.receiver.proofs.LawsFrames.{Fair, fair}
use Rattle.receiver.proofs.LawsSteps.{length-after}
use Rattle.receiver.proofs.LawsReceived.{ready}

-- what a host finds by the numbers that it is told is what is shown: for every outcome
pub told-shown : (bytes buffer : List ℕ) (o : Result Outcome Refusal) → shown_of bytes buffer o ≡ told_message (outcome_told o) bytes buffer
unfolding shown_of told_message outcome_told nothing_told region_at pick
told-shown bytes buffer (Err why) = refl
told-shown bytes buffer (Ok (OverLong from)) = refl
told-shown bytes buffer (Ok (Opened from)) = refl
told-shown bytes buffer (Ok (Taken from)) = refl
told-shown bytes buffer (Ok (Single from functional L)) = refl
told-shown bytes buffer (Ok (Train from L)) = refl

-- the control that is told is the one that is due
pub told-due : (o : Result Outcome Refusal) → (outcome_told o).control ≡ due_of o
unfolding outcome_told nothing_told due_of
told-due (Err why) = refl
told-due (Ok (OverLong from)) = refl
told-due (Ok (Opened from)) = refl
told-due (Ok (Taken from)) = refl
told-due (Ok (Single from functional L)) = refl
told-due (Ok (Train from L)) = refl

-- ---- the shown message has exactly the told length
abbrev Shows : List ℕ → List ℕ → Step → Type 0
Shows bytes buffer s = length (shown_of bytes buffer s.outcome) ≡ (outcome_told s.outcome).length

module _ (bytes buffer : List ℕ) (room : length buffer ≡ 1536) (r : Reception) (short : r.length ≤ 255) (stamp : ℕ) where
  shows-refused : (x : Reception) (why : Refusal) → Holds (Shows bytes buffer) (leaving x (Err why))
  unfolding leaving shown_of outcome_told nothing_told
  shows-refused x why = record { holds = refl }

  shows-taken : (from : Position) → Holds (Shows bytes buffer) (taken_step r from stamp)
  unfolding taken_step shown_of region_at outcome_told nothing_told
  shows-taken from = by-test (ltb 6 (left_of r)) (λ a. record { holds = refl }) (λ a. record { holds = length-take-le r.length (drop (256 * place_of from) buffer) (rw length-drop (omega (arith, place-below from))) })

  shows-followed : (from : Position) (number : ℕ) → Holds (Shows bytes buffer) (followed r from number (length bytes) stamp)
  unfolding followed closing
  shows-followed from number =
      by-test _ (λ a. shows-refused r _)
      (λ a. by-test _ (λ b. shows-refused r _) (λ b. by-test _ (λ d. by-test _ (λ e. shows-refused closed _) (λ e. shows-taken from)) (λ d. shows-refused closed _)))

  shows-single : (from : Position) (functional : Bool) (L : ℕ) → 2 + L ≤ length bytes → Shows bytes buffer (leaving (behind_single r functional) (Ok (Single from functional L)))
  unfolding leaving shown_of outcome_told
  shows-single from functional L h =
      length-take-le L (drop 2 bytes) (rw length-drop (omega arith))

  shows-step : (own : Position) (unit identifier : ℕ) (j : Result Judged Refusal) → Fair own unit identifier bytes j → Shows bytes buffer (step_of r j (length bytes) stamp)
  unfolding step_of opened closing leaving shown_of outcome_told nothing_told
  shows-step own unit identifier (Err why) f = refl
  shows-step own unit identifier (Ok (judged.Single from functional L)) f = shows-single from functional L f.1.room
  shows-step own unit identifier (Ok (judged.First from L)) f = refl
  shows-step own unit identifier (Ok (judged.OverLong from)) f = refl
  shows-step own unit identifier (Ok (judged.Consecutive from number)) f = (shows-followed from number).holds

module _ (n : Node) (buffer : List ℕ) (identifier : ℕ) (bytes : List ℕ) (stamp : ℕ) (short : (p : ℕ) → (reception_at n p).length ≤ 255) where
  abbrev step_at : Option Position → Step
  step_at v = step_by n (judged_at n identifier bytes v) bytes stamp

  shown-at : (v : Option Position) → ((own : Position) → v ≡ Some own → length buffer ≡ buffer_length) → Shows bytes (written_by buffer (step_at v) bytes) (step_at v)
  unfolding judged_at step_by step_of leaving shown_of outcome_told nothing_told
  shown-at None room = refl
  shown-at (Some own) room =
      let j = judged_of own n.unit identifier bytes in
      shows-step bytes _ (length-after buffer _ bytes ∙ room own refl) (reception_at n (judged_place j)) (short (judged_place j)) stamp own n.unit identifier j (fair own n.unit identifier bytes j refl)

  -- of every node whose lengths are bytes, every buffer and every frame
  pub told-length : length (shown_of bytes (buffer_after n buffer identifier bytes stamp) (received_of n buffer identifier bytes stamp).outcome) ≡ (outcome_told (received_of n buffer identifier bytes stamp).outcome).length
  unfolding received_of stored_in moved_of moved_by judged_by buffer_after
  told-length = shown-at (own_of n (length buffer)) (λ own e. (ready n (length buffer) own e).fits)
