-- A node whose numbers are bytes where bytes are meant stays one, whatever frame it is offered.
use Rattle.std.specs.Prelude.{Option, Some, None}
use Rattle.std.proofs.Common.{◌≡◌, ℕ, ◌+◌, ◌-◌, ◌*◌, ◌<◌, ◌≤◌, true, List, length, sym, refl, ap, ◌∙◌, arith, ltb-true, le-leb, Result, Ok, Err}
use Rattle.identifiers.specs.Choice.{both}
use Rattle.identifiers.proofs.LawsChoice.{Holds, by-test, so, both_true}
use Rattle.identifiers.proofs.LawsBelow.{all-each}
use Rattle.identifiers.specs.declared.refusal.Refusal.{Refusal}
use Rattle.readings.specs.declared.position.Position.{Position}
use Rattle.receiver.specs.declared.reception.Reception.{Reception}
use Rattle.receiver.specs.declared.frame.Judged.{Judged}
use Rattle.receiver.specs.declared.frame.Judged.TheVariants as judged
use Rattle.receiver.specs.declared.outcome.Outcome.{Outcome}
use Rattle.receiver.specs.Receptions.{closed, open_with}
use Rattle.receiver.specs.Nodes.{Node, reception_at, with_reception, fresh_node}
use Rattle.receiver.specs.Frames.{judged_of}
use Rattle.receiver.specs.Steps.{Step, judged_place, leaving, closing, opened, done_of, left_of, taken_step, followed, step_of}
use Rattle.receiver.specs.Receiving.{Received, own_of, received_of}
use Rattle.receiver.specs.Lent.{in_bytes, bytes_in}
use Rattle.receiver.proofs.LawsFrames.{Fair, fair}
use Rattle.receiver.proofs.LawsNodes.{fresh-closed}
use Rattle.receiver.proofs.LawsRules.{set_cases}
use Rattle.receiver.proofs.LawsSteps.{place-judged}
use Rattle.receiver.proofs.LawsReceived.{ready, received_is, received-1}
use Rattle.receiver.proofs.LawsLentRules.{bytes-at, length-byte}

-- ---- one reception
closed-bytes : in_bytes closed ≡ true
unfolding in_bytes both
closed-bytes = refl

open-bytes : (L k t : ℕ) → L ≤ 255 → k ≤ 255 → in_bytes (open_with L k t) ≡ true
unfolding in_bytes
open-bytes L k t a b = sym (so (le-leb L 255 a) (sym (le-leb k 255 b)))

-- ---- a step
abbrev Keeps : Step → Type 0
Keeps s = in_bytes s.reception ≡ true

module _ (r : Reception) (h : in_bytes r ≡ true) (count stamp : ℕ) where
  left-keeps : (o : Result Outcome Refusal) → Holds Keeps (leaving r o)
  unfolding leaving
  left-keeps o = record { holds = h }

  closing-keeps : (o : Result Outcome Refusal) → Holds Keeps (closing o)
  unfolding closing leaving
  closing-keeps o = record { holds = closed-bytes }

  -- a seventh byte is left: so few frames are taken that one more is a byte
  taken-keeps : (from : Position) → Holds Keeps (taken_step r from stamp)
  unfolding taken_step left_of done_of
  taken-keeps from =
      by-test _
      (λ e. let more : 6 < r.length - (5 + 6 * r.taken) = ltb-true _ _ e in record { holds = open-bytes r.length (r.taken + 1) stamp (length-byte r h) (omega (arith, length-byte r h)) })
      (λ e. record { holds = closed-bytes })

  followed-keeps : (from : Position) (number : ℕ) → Holds Keeps (followed r from number count stamp)
  unfolding followed
  followed-keeps from number =
      by-test _ (λ e. left-keeps _)
      (λ e. by-test _ (λ f. left-keeps _)
      (λ f. by-test _ (λ g. by-test _ (λ i. closing-keeps _) (λ i. taken-keeps from)) (λ g. closing-keeps _)))

step_keeps : (own : Position) (unit n : ℕ) (r : Reception) (bytes : List ℕ) (stamp : ℕ) (j : Result Judged Refusal) → in_bytes r ≡ true → Fair own unit n bytes j → Keeps (step_of r j (length bytes) stamp)
unfolding step_of opened closing leaving
step_keeps own unit n r bytes stamp (Err why) h f = h
step_keeps own unit n r bytes stamp (Ok (judged.Single from functional L)) h f = (by-test {P = λ (x : Reception). in_bytes x ≡ true} functional (λ e. record { holds = h }) (λ e. record { holds = closed-bytes })).holds
step_keeps own unit n r bytes stamp (Ok (judged.First from L)) h f = open-bytes L 0 stamp f.1.most (omega arith)
step_keeps own unit n r bytes stamp (Ok (judged.OverLong from)) h f = closed-bytes
step_keeps own unit n r bytes stamp (Ok (judged.Consecutive from number)) h f = (followed-keeps r h (length bytes) stamp from number).holds

-- ---- the node
module _ (n : Node) (h : bytes_in n ≡ true) where
  stored-keeps : (p : ℕ) (r : Reception) → in_bytes r ≡ true → bytes_in (with_reception n p r) ≡ true
  unfolding bytes_in with_reception reception_at
  stored-keeps p r g =
      sym (so (both_true _ _ h).0 (sym (all-each _ 6 (λ i l. set_cases (λ (x : Reception). in_bytes x ≡ true) n.receptions p i r closed g (bytes-at n h i l)))))

  module _ (buffer : List ℕ) (identifier : ℕ) (bytes : List ℕ) (stamp : ℕ) where
    at-vehicle : (v : Option Position) → own_of n (length buffer) ≡ v → bytes_in (received_of n buffer identifier bytes stamp).node ≡ true
    at-vehicle None e = ap (λ (x : Received). bytes_in x.node) (received-1 n buffer identifier bytes stamp e) ∙ h
    at-vehicle (Some own) e =
        let x = ready n (length buffer) own e in
        let j = judged_of own n.unit identifier bytes in
        ap (λ (x : Received). bytes_in x.node) (received_is n buffer own n.unit x.sound x.fits x.at refl identifier bytes stamp)
        ∙ stored-keeps (judged_place j) _ (step_keeps own n.unit identifier _ bytes stamp j (bytes-at n h (judged_place j) (place-judged j)) (fair own n.unit identifier bytes j refl))

    pub bytes-kept : bytes_in (received_of n buffer identifier bytes stamp).node ≡ true
    bytes-kept = at-vehicle (own_of n (length buffer)) refl

-- a fresh node with a unit that is a byte is one
pub fresh-bytes : (own unit : ℕ) → unit ≤ 255 → bytes_in (fresh_node own unit) ≡ true
unfolding bytes_in fresh_node
fresh-bytes own unit h = sym (so (le-leb unit 255 h) (sym (all-each _ 6 (λ i l. ap in_bytes (fresh-closed own unit i l) ∙ closed-bytes))))
