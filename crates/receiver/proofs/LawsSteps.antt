-- What every step promises: it reads bytes that the frame has, writes within its vehicle's part of the buffer, keeps the rules.
use Rattle.std.proofs.Common.{◌≡◌, ℕ, ◌+◌, ◌-◌, ◌*◌, ◌<◌, ◌≤◌, min, Bool, true, ◌≢◌, List, length, refl, arith, ltb-false, ltb-true, Result, Ok, Err}
use borrow.Author.Tests.{eqb-false}
use Rattle.identifiers.proofs.LawsChoice.{Holds, by-test}
use Rattle.identifiers.proofs.LawsBytes.{written_none, length-written}
use Rattle.identifiers.specs.declared.refusal.Refusal.{Refusal}
use Rattle.readings.specs.Positions.{place_of}
use Rattle.readings.proofs.LawsPositions.{place-below}
use Rattle.readings.specs.declared.position.Position.{Position}
use Rattle.readings.specs.declared.position.Position.TheVariants.{Zero}
use Rattle.receiver.specs.declared.reception.Reception.{Reception}
use Rattle.receiver.specs.declared.frame.Judged.{Judged}
use Rattle.receiver.specs.declared.frame.Judged.TheVariants as judged
use Rattle.receiver.specs.declared.outcome.Outcome.{Outcome}
use Rattle.receiver.specs.Receptions.{closed, sound_reception, region_at}
use Rattle.receiver.specs.Frames.{judged_of}
use Rattle.receiver.specs.Steps.{Step, leaving, closing, opened, done_of, left_of, taken_step, followed, behind_single, step_of, written_by, judged_place}
use Rattle.receiver.specs.Receiving.{step_by, moved_by, stored_in}
use Rattle.receiver.specs.Nodes.{Node, reception_at, sound_node}
use Rattle.receiver.proofs.LawsFrames.{Fair, fair}
use Rattle.receiver.proofs.LawsRules.{sound-closed, sound-open, open-facts, sound-at, sound-with}

-- "The buffer has 1,536 bytes: position p owns bytes 256p to 256p+254"
pub region-fits : (p : Position) → region_at p + 255 ≤ 1536
unfolding region_at
region-fits p = omega (arith, place-below p)

-- of a step of the vehicle at this place, by a frame of so many data bytes
pub record Fitted (place bytes : ℕ) (s : Step) : Type 0 where
  pub reads : s.start + s.count ≤ bytes
  pub begins : 0 < s.count → 256 * place ≤ s.at
  pub ends : s.at + s.count ≤ 256 * place + 255
  pub sound : sound_reception s.reception ≡ true

pub leaving-fitted : (place bytes : ℕ) (r : Reception) (o : Result Outcome Refusal) → sound_reception r ≡ true → Fitted place bytes (leaving r o)
unfolding leaving
leaving-fitted place bytes r o h = record { reads = omega arith; begins = λ (z : 0 < 0). absurd (omega arith); ends = omega arith; sound = h }

closing-fitted : (place bytes : ℕ) (o : Result Outcome Refusal) → Fitted place bytes (closing o)
unfolding closing
closing-fitted place bytes o = leaving-fitted place bytes closed o sound-closed

module _ (r : Reception) (count stamp : ℕ) (h : sound_reception r ≡ true) (short : r.length ≤ 255) where
  taken-fitted : (from : Position) → r.length ≢ 0 → 2 + min 6 (left_of r) ≤ count → Holds (Fitted (place_of from) count) (taken_step r from stamp)
  unfolding taken_step left_of done_of region_at
  taken-fitted from z e =
      let o = open-facts r h z in
      by-test _
      (λ f. let six : 6 < r.length - (5 + 6 * r.taken) = ltb-true _ _ f in
      record { holds = record { reads = omega arith; begins = λ l. omega arith; ends = omega arith; sound = sound-open r.length (r.taken + 1) stamp o.0 (omega arith) } })
      (λ f. let six : r.length - (5 + 6 * r.taken) ≤ 6 = ltb-false _ _ f in
      record { holds = record { reads = omega arith; begins = λ l. omega arith; ends = omega arith; sound = sound-closed } })

  followed-fitted : (from : Position) (number : ℕ) → Holds (Fitted (place_of from) count) (followed r from number count stamp)
  unfolding followed
  followed-fitted from number =
      by-test _ (λ e. record { holds = leaving-fitted _ _ _ _ h })
      (λ e. by-test _ (λ f. record { holds = leaving-fitted _ _ _ _ h })
      (λ f. by-test _ (λ g. by-test _ (λ i. record { holds = closing-fitted _ _ _ }) (λ i. taken-fitted from (eqb-false _ _ e) (ltb-false _ _ f)))
      (λ g. record { holds = closing-fitted _ _ _ })))

  single-fitted : (from : Position) (functional : Bool) (o : Result Outcome Refusal) → Fitted (place_of from) count (leaving (behind_single r functional) o)
  single-fitted from functional o = leaving-fitted _ _ _ o (by-test {P = λ (x : Reception). sound_reception x ≡ true} functional (λ e. record { holds = h }) (λ e. record { holds = sound-closed })).holds

pub step-fitted : (own : Position) (unit n : ℕ) (r : Reception) (bytes : List ℕ) (stamp : ℕ) (j : Result Judged Refusal) → sound_reception r ≡ true → r.length ≤ 255 → Fair own unit n bytes j
    → Fitted (judged_place j) (length bytes) (step_of r j (length bytes) stamp)
unfolding step_of opened region_at
step-fitted own unit n r bytes stamp (Err why) h s f = leaving-fitted _ _ _ _ h
step-fitted own unit n r bytes stamp (Ok (judged.Single from functional L)) h s f = single-fitted r (length bytes) stamp h s from functional _
step-fitted own unit n r bytes stamp (Ok (judged.First from L)) h s f = record { reads = f.1.room; begins = λ l. omega arith; ends = omega arith; sound = sound-open L 0 stamp f.1.least (omega (arith, f.1.least)) }
step-fitted own unit n r bytes stamp (Ok (judged.OverLong from)) h s f = closing-fitted _ _ _
step-fitted own unit n r bytes stamp (Ok (judged.Consecutive from number)) h s f = (followed-fitted r (length bytes) stamp h s from number).holds

-- the vehicle whose reception a judged frame is about
abbrev pub about : Result Judged Refusal → Position
about (Err why) = Zero
about (Ok (judged.Single from functional L)) = from
about (Ok (judged.First from L)) = from
about (Ok (judged.OverLong from)) = from
about (Ok (judged.Consecutive from number)) = from

pub about-place : (j : Result Judged Refusal) → place_of (about j) ≡ judged_place j
about-place (Err why) = refl
about-place (Ok (judged.Single from functional L)) = refl
about-place (Ok (judged.First from L)) = refl
about-place (Ok (judged.OverLong from)) = refl
about-place (Ok (judged.Consecutive from number)) = refl

pub place-judged : (j : Result Judged Refusal) → judged_place j < 6
place-judged j = rw (← about-place j) (place-below (about j))

-- what is written changes no length
pub length-after : (buffer : List ℕ) (s : Step) (bytes : List ℕ) → length (written_by buffer s bytes) ≡ length buffer
unfolding written_by
length-after buffer s bytes = length-written buffer s.at _

-- what changes nothing writes nothing
pub leaving-writes : (buffer : List ℕ) (r : Reception) (o : Result Outcome Refusal) (bytes : List ℕ) → written_by buffer (leaving r o) bytes ≡ buffer
unfolding written_by leaving
leaving-writes buffer r o bytes = written_none buffer 0

-- ---- the step of a node that keeps its rules, by a frame that checks 2 to 10 judge
module _ (n : Node) (own : Position) (identifier : ℕ) (bytes : List ℕ) (stamp : ℕ) (s : sound_node n ≡ true) where
  abbrev frame : Result Judged Refusal
  frame = judged_of own n.unit identifier bytes

  module _ (short : (reception_at n (judged_place frame)).length ≤ 255) where
    pub node-fitted : Fitted (judged_place frame) (length bytes) (step_by n frame bytes stamp)
    unfolding step_by
    node-fitted = step-fitted own n.unit identifier _ bytes stamp frame (sound-at n _ s (place-judged frame)) short (fair own n.unit identifier bytes frame refl)

    pub received-sound : sound_node (stored_in n (moved_by n frame bytes stamp)).node ≡ true
    unfolding stored_in moved_by
    received-sound = sound-with n (judged_place frame) _ node-fitted.sound s
