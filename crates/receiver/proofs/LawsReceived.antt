-- A frame received by a node: when it is ready for one, and what it then answers; where it is not, 1, and all stays.
use Rattle.std.specs.Prelude.{Some, None}
use Rattle.std.proofs.Common.{◌≡◌, ℕ, true, List, length, sym, ap, ◌∙◌, eq-eqb, eqb-true, Result, Err}
use Rattle.identifiers.specs.Refusals.{refusal}
use Rattle.identifiers.proofs.LawsChoice.{pick_true, was-taken, so, both_true}
use Rattle.identifiers.specs.declared.refusal.Refusal.{Refusal}
use Rattle.readings.specs.Positions.{trailer_at}
use Rattle.readings.proofs.LawsPositions.{not_none}
use Rattle.readings.specs.declared.position.Position.{Position}
use Rattle.receiver.specs.declared.frame.Judged.{Judged}
use Rattle.receiver.specs.Frames.{judged_of}
use Rattle.receiver.specs.Steps.{Step, step_of, written_by, leaving, judged_place}
use Rattle.receiver.specs.Receiving.{step_by, own_of, judged_at, judged_by, moved_by, moved_of, stored_in, received_of, buffer_after}
use Rattle.receiver.specs.Nodes.{Node, reception_at, with_reception, sound_node}
use Rattle.receiver.proofs.LawsNodes.{put_back}
use Rattle.receiver.proofs.LawsSteps.{leaving-writes}

-- ---- the step of a node that keeps its rules, held with a buffer of 1,536 bytes
pub record Ready (n : Node) (room : ℕ) (own : Position) : Type 0 where
  pub sound : sound_node n ≡ true
  pub fits : room ≡ 1536
  pub at : trailer_at n.own ≡ Some own

pub ready : (n : Node) (room : ℕ) (own : Position) → own_of n room ≡ Some own → Ready n room own
unfolding own_of
ready n room own e =
    let found = was-taken _ _ _ _ (not_none own) e in
    let rules = both_true _ _ found.0 in
    record { sound = rules.0; fits = eqb-true _ _ rules.1; at = found.1 }

pub own_is : (n : Node) (room : ℕ) → sound_node n ≡ true → room ≡ 1536 → own_of n room ≡ trailer_at n.own
unfolding own_of
own_is n room s l = pick_true _ _ (sym (so s (sym (eq-eqb _ _ l))))

-- what it is then answered, and what its buffer is
module _ (n : Node) (buffer : List ℕ) (own : Position) (unit : ℕ) (s : sound_node n ≡ true) (l : length buffer ≡ 1536) (at : trailer_at n.own ≡ Some own) (u : n.unit ≡ unit)
    (identifier : ℕ) (bytes : List ℕ) (stamp : ℕ) where
  abbrev frame : Result Judged Refusal
  frame = judged_of own unit identifier bytes

  abbrev step : Step
  step = step_of (reception_at n (judged_place frame)) frame (length bytes) stamp

  judged-is : judged_by n buffer identifier bytes ≡ frame
  unfolding judged_by judged_at
  judged-is = ap (judged_at n identifier bytes) (own_is n _ s l ∙ at) ∙ ap (λ (i : ℕ). judged_of own i identifier bytes) u

  pub received_is : received_of n buffer identifier bytes stamp ≡ record { node = with_reception n (judged_place frame) step.reception; outcome = step.outcome }
  unfolding received_of stored_in moved_of moved_by step_by
  received_is = ap (λ (j : Result Judged Refusal). stored_in n (moved_by n j bytes stamp)) judged-is

  pub buffer-is : buffer_after n buffer identifier bytes stamp ≡ written_by buffer step bytes
  unfolding buffer_after step_by
  buffer-is = ap (λ (j : Result Judged Refusal). written_by buffer (step_by n j bytes stamp) bytes) judged-is

-- ---- where there is no own position, 1: node and buffer stay as found
module _ (n : Node) (buffer : List ℕ) (identifier : ℕ) (bytes : List ℕ) (stamp : ℕ) (none : own_of n (length buffer) ≡ None) where
  judged-1 : judged_by n buffer identifier bytes ≡ Err (refusal 1)
  unfolding judged_by judged_at
  judged-1 = ap (judged_at n identifier bytes) none

  pub received-1 : received_of n buffer identifier bytes stamp ≡ record { node = n; outcome = Err (refusal 1) }
  unfolding received_of stored_in moved_of moved_by step_by step_of leaving
  received-1 =
      ap (λ (j : Result Judged Refusal). stored_in n (moved_by n j bytes stamp)) judged-1
      ∙ ap (λ (m : Node). record { node = m; outcome = Err (refusal 1) }) (put_back n 0)

  pub buffer-1 : buffer_after n buffer identifier bytes stamp ≡ buffer
  unfolding buffer_after step_by step_of
  buffer-1 = ap (λ (j : Result Judged Refusal). written_by buffer (step_by n j bytes stamp) bytes) judged-1 ∙ leaving-writes buffer _ _ bytes
