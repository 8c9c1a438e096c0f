-- Refusal 1 exactly where document 01 gives it: where the node's state breaks its rules, or the buffer has another length than 1,536.
use Rattle.std.specs.Prelude.{Option, Some, None}
use Rattle.std.proofs.Common.{◌≡◌, ℕ, ◌+◌, ◌*◌, Bool, true, false, eqb, ltb, leb, ◌↔◌, List, length, sym, refl, ap, ◌∙◌, arith, ltb-false, le-ltb, eq-eqb, ne_eqb, eqb-true, leb-false, leb-true, Result, Err}
use mathlib.Core.Bool.{false≢true}
use borrow.Author.Tests.{eqb-false, lt-leb}
use Rattle.identifiers.specs.Choice.{pick, both}
use Rattle.identifiers.specs.Below.{all_below}
use Rattle.identifiers.specs.Refusals.{refusal}
use Rattle.identifiers.proofs.LawsChoice.{pick_true, pick-false, both_false, stop}
use Rattle.identifiers.proofs.LawsBelow.{all-not, all-fails}
use Rattle.identifiers.specs.declared.refusal.Refusal.{Refusal}
use Rattle.readings.specs.Positions.{trailer_at}
use Rattle.readings.proofs.LawsPositions.{trailer-none}
use Rattle.receiver.specs.declared.reception.Reception.{Reception}
use Rattle.receiver.specs.declared.outcome.Outcome.{Outcome}
use Rattle.receiver.specs.Receptions.{sound_reception}
use Rattle.receiver.specs.Steps.{leaving, step_of}
use Rattle.receiver.specs.Receiving.{step_by, own_of, judged_at, judged_by, moved_by, moved_of, stored_in, received_of}
use Rattle.receiver.specs.Nodes.{Node, reception_at, sound_node}
use Rattle.receiver.specs.Names.{BrokenReception, closed_with_frames, closed_with_stamp, under_seven, none_left, Broken, not_a_trailer, past_the_last, broken_reception, other_room}
use Rattle.receiver.proofs.EachRefusal.{step-refuses, refuses-number}
use Rattle.readings.specs.declared.position.Position.{Position}

-- ---- a reception
which-broken : (r : Reception) (none frames stamp seven left : Bool) → eqb r.length 0 ≡ none → eqb r.taken 0 ≡ frames → eqb r.last 0 ≡ stamp → leb 7 r.length ≡ seven
    → ltb (5 + 6 * r.taken) r.length ≡ left → pick none (both frames stamp) (both seven left) ≡ false → BrokenReception r
unfolding pick both
which-broken r true false stamp seven left a b c d e f = closed_with_frames (eqb-true _ _ a) (eqb-false _ _ b)
which-broken r true true false seven left a b c d e f = closed_with_stamp (eqb-true _ _ a) (eqb-false _ _ c)
which-broken r true true true seven left a b c d e f = absurd (false≢true (sym f))
which-broken r false frames stamp false left a b c d e f = under_seven (eqb-false _ _ a) (leb-false _ _ d)
which-broken r false frames stamp true false a b c d e f = none_left (eqb-false _ _ a) (ltb-false _ _ e)
which-broken r false frames stamp true true a b c d e f = absurd (false≢true (sym f))

is-broken : (r : Reception) → BrokenReception r → sound_reception r ≡ false
unfolding sound_reception
is-broken r (closed_with_frames a b) = pick_true _ _ (eq-eqb _ _ a) ∙ sym (stop _ (ne_eqb _ _ b))
is-broken r (closed_with_stamp a b) = pick_true _ _ (eq-eqb _ _ a) ∙ ap (both _) (ne_eqb _ _ b) ∙ both_false _
is-broken r (under_seven a b) = pick-false _ _ (ne_eqb _ _ a) ∙ sym (stop _ (lt-leb _ _ b))
is-broken r (none_left a b) = pick-false _ _ (ne_eqb _ _ a) ∙ ap (both _) (le-ltb _ _ b) ∙ both_false _

pub broken-exactly : (r : Reception) → sound_reception r ≡ false ↔ BrokenReception r
unfolding sound_reception
broken-exactly r = (which-broken r _ _ _ _ _ refl refl refl refl refl, is-broken r)

-- ---- the node and its buffer
module _ (n : Node) (buffer : List ℕ) where
  abbrev test : ℕ → Bool
  test p = sound_reception (reception_at n p)

  which-fails : (low high all room : Bool) → leb 1 n.own ≡ low → leb n.own 5 ≡ high → all_below test 6 ≡ all → eqb (length buffer) 1536 ≡ room
      → pick (both (both low (both high all)) room) (trailer_at n.own) None ≡ None → Broken n buffer
  unfolding pick both
  which-fails false high all room a b c d e = not_a_trailer (leb-false _ _ a)
  which-fails true false all room a b c d e = past_the_last (leb-false _ _ b)
  which-fails true true false room a b c d e = let x = all-not test 6 c in broken_reception x.1.0 ((broken-exactly _).0 x.1.1)
  which-fails true true true false a b c d e = other_room (eqb-false _ _ d)
  which-fails true true true true a b c d e = past_the_last (trailer-none _ (leb-true _ _ a) e)

  pub not_sound : sound_node n ≡ false → own_of n (length buffer) ≡ None
  unfolding own_of
  not_sound h = pick-false _ _ (sym (stop _ h))

  pub no_own : Broken n buffer → own_of n (length buffer) ≡ None
  unfolding own_of sound_node
  no_own (not_a_trailer h) = not_sound (sym (stop _ (lt-leb _ _ h)))
  no_own (past_the_last h) = not_sound (ap (both _) (sym (stop _ (lt-leb _ _ h))) ∙ both_false _)
  no_own (broken_reception {p} l x) = not_sound (ap (both _) (ap (both _) (all-fails test p 6 l ((broken-exactly _).1 x)) ∙ both_false _) ∙ both_false _)
  no_own (other_room h) = pick-false _ _ (ap (both _) (ne_eqb _ _ h) ∙ both_false _)

  -- ---- a frame that is judged is never refused with 1
  module _ (identifier : ℕ) (bytes : List ℕ) (stamp : ℕ) where
    abbrev outcome_at : Option Position → Result Outcome Refusal
    outcome_at v = (step_by n (judged_at n identifier bytes v) bytes stamp).outcome

    none_of : (v : Option Position) → outcome_at v ≡ Err (refusal 1) → v ≡ None
    unfolding judged_at step_by
    none_of None e = refl
    none_of (Some own) e = absurd (omega (arith, refuses-number own n identifier bytes stamp ((step-refuses own n identifier bytes stamp (refusal 1)).0 e)))

    by-1 : outcome_at None ≡ Err (refusal 1)
    unfolding judged_at step_by step_of leaving
    by-1 = refl

    -- of every node, buffer and frame
    pub refused-1 : (received_of n buffer identifier bytes stamp).outcome ≡ Err (refusal 1) ↔ Broken n buffer
    unfolding received_of stored_in moved_of moved_by judged_by own_of sound_node
    refused-1 = (
      λ e. which-fails _ _ _ _ refl refl refl refl (none_of (own_of n (length buffer)) e),
      λ (b : Broken n buffer). ap outcome_at (no_own b) ∙ by-1,
    )
