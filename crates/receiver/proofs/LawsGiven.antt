-- What a step gives, by the judged frame: the vehicle's reception, the outcome, and the buffer afterwards; and what is then shown.
use Rattle.std.proofs.Common.{◌≡◌, ℕ, Bool, true, false, List, take, drop, refl, Result, Ok, Err, ◌+◌, ◌*◌, ◌-◌, ◌<◌, ◌≤◌, lt-ltb, le-ltb}
use Rattle.identifiers.specs.Choice.{pick}
use Rattle.identifiers.specs.Bytes.{written}
use Rattle.identifiers.specs.declared.refusal.Refusal.{Refusal}
use Rattle.identifiers.proofs.LawsChoice.{pick_true, pick-false}
use Rattle.readings.specs.declared.position.Position.{Position}
use Rattle.receiver.specs.declared.reception.Reception.{Reception}
use Rattle.receiver.specs.declared.frame.Judged.{Judged}
use Rattle.receiver.specs.declared.frame.Judged.TheVariants as judged
use Rattle.receiver.specs.declared.outcome.Outcome.{Outcome}
use Rattle.receiver.specs.declared.outcome.Outcome.TheVariants.{OverLong, Opened, Single, Train, Taken}
use Rattle.receiver.specs.Receptions.{closed, open_with, region_at}
use Rattle.receiver.specs.Steps.{Step, leaving, closing, opened, step_of, written_by, Gives, behind_single, taken_step, left_of, done_of}
use Rattle.receiver.specs.Shown.{shown_of}
use Rattle.receiver.proofs.LawsSteps.{leaving-writes}

module _ (buffer bytes : List ℕ) where
  -- nothing changes; the reception is closed; bytes of the frame are written
  pub leaving-gives : (r : Reception) (o : Result Outcome Refusal) → Gives buffer bytes (leaving r o) r o buffer
  unfolding leaving
  leaving-gives r o = record { reception = refl; outcome = refl; leaves = leaving-writes buffer r o bytes }

  pub closing-gives : (o : Result Outcome Refusal) → Gives buffer bytes (closing o) closed o buffer
  unfolding closing
  closing-gives o = leaving-gives closed o

  pub stores-gives : (r : Reception) (at start count : ℕ) (o : Result Outcome Refusal)
      → Gives buffer bytes (record { reception = r; at = at; start = start; count = count; outcome = o }) r o (written buffer at (take count (drop start bytes)))
  unfolding written_by
  stores-gives r at start count o = record { reception = refl; outcome = refl; leaves = refl }

  -- the same of a step said otherwise
  pub gives-as : {s t : Step} {r : Reception} {o : Result Outcome Refusal} {after : List ℕ} → s ≡ t → Gives buffer bytes t r o after → Gives buffer bytes s r o after
  gives-as e g = rw e g

  -- a consecutive frame that is taken: six bytes more, or the last ones
  module _ (r : Reception) (from : Position) (stamp : ℕ) {at : ℕ} {after : List ℕ} (place : at ≡ region_at from + (5 + 6 * r.taken)) where
    pub taken-gives : 6 < r.length - (5 + 6 * r.taken) → after ≡ written buffer at (take 6 (drop 2 bytes))
        → Gives buffer bytes (taken_step r from stamp) (open_with r.length (r.taken + 1) stamp) (Ok (Taken from)) after
    unfolding taken_step left_of done_of
    taken-gives more e = rw (e, place) (gives-as (pick_true _ _ (lt-ltb _ _ more)) (stores-gives _ _ 2 6 _))

    pub last-gives : r.length - (5 + 6 * r.taken) ≤ 6 → after ≡ written buffer at (take (r.length - (5 + 6 * r.taken)) (drop 2 bytes))
        → Gives buffer bytes (taken_step r from stamp) closed (Ok (Train from r.length)) after
    unfolding taken_step left_of done_of
    last-gives last e = rw (e, place) (gives-as (pick-false _ _ (le-ltb _ _ last)) (stores-gives _ _ 2 _ _))

  module _ (r : Reception) (count stamp : ℕ) where
    -- of a frame judged so
    pub judged-so : {j i : Judged} {x : Reception} {o : Result Outcome Refusal} {after : List ℕ} → j ≡ i → Gives buffer bytes (step_of r (Ok i) count stamp) x o after
        → Gives buffer bytes (step_of r (Ok j) count stamp) x o after
    judged-so e g = rw e g

    -- "A refusal .. leaves state and buffers as found"
    pub refused-gives : (why : Refusal) → Gives buffer bytes (step_of r (Err why) count stamp) r (Err why) buffer
    unfolding step_of
    refused-gives why = leaving-gives r (Err why)

    module _ (from : Position) where
      -- a single frame that leaves this reception
      pub single-gives : (functional : Bool) (L : ℕ) {x : Reception} → x ≡ behind_single r functional
          → Gives buffer bytes (step_of r (Ok (judged.Single from functional L)) count stamp) x (Ok (Single from functional L)) buffer
      unfolding step_of
      single-gives functional L e = rw e (leaving-gives (behind_single r functional) (Ok (Single from functional L)))

      -- "Functional frames are single only and touch no reception"
      pub functional-gives : (L : ℕ) → Gives buffer bytes (step_of r (Ok (judged.Single from true L)) count stamp) r (Ok (Single from true L)) buffer
      unfolding step_of pick
      functional-gives L = leaving-gives r (Ok (Single from true L))

      -- "A physical single frame, .. an over-long one .. ends the open reception"
      pub physical-gives : (L : ℕ) → Gives buffer bytes (step_of r (Ok (judged.Single from false L)) count stamp) closed (Ok (Single from false L)) buffer
      unfolding step_of pick
      physical-gives L = leaving-gives closed (Ok (Single from false L))

      pub over-long-gives : Gives buffer bytes (step_of r (Ok (judged.OverLong from)) count stamp) closed (Ok (OverLong from)) buffer
      unfolding step_of
      over-long-gives = closing-gives (Ok (OverLong from))

      -- "A first frame opens it anew", and its five message bytes begin the vehicle's part of the buffer
      pub first_gives : (L : ℕ)
          → Gives buffer bytes (step_of r (Ok (judged.First from L)) count stamp) (open_with L 0 stamp) (Ok (Opened from)) (written buffer (region_at from) (take 5 (drop 3 bytes)))
      unfolding step_of opened
      first_gives L = stores-gives (open_with L 0 stamp) (region_at from) 3 5 (Ok (Opened from))

-- "The shown message is a part of the frame's own data or of the reception buffer"
module _ (bytes buffer : List ℕ) (from : Position) where
  pub shown-single : (functional : Bool) (L : ℕ) → shown_of bytes buffer (Ok (Single from functional L)) ≡ take L (drop 2 bytes)
  unfolding shown_of
  shown-single functional L = refl

  pub shown-train : (L : ℕ) → shown_of bytes buffer (Ok (Train from L)) ≡ take L (drop (region_at from) buffer)
  unfolding shown_of
  shown-train L = refl
