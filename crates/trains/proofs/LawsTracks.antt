-- A fresh node that is offered a sequence holds, for each vehicle, what the sequence says, and hands out at each frame what stands there: by induction on the sequence.
use Rattle.std.specs.Prelude.{Some}
use Rattle.std.proofs.Common.{Result, Ok, Err}
use mathlib.Core.Path.{◌≡◌, refl, sym, ap, ◌∙◌, subst}
use mathlib.Core.Bool.{true, false}
use mathlib.Core.List.{List}
use Prim.Native.Nat.{ℕ, ◌+◌, ◌*◌, ◌≤◌}
use native.Mathlib.Omega.{arith}
use lib.ListN.{length}
use Rattle.identifiers.specs.declared.refusal.Refusal.{Refusal}
use Rattle.readings.specs.Positions.{place_of, trailer_at}
use Rattle.readings.specs.declared.position.Position.{Position}
use Rattle.readings.proofs.LawsPositions.{place-below, trailer-back}
use Rattle.receiver.specs.declared.reception.Reception.{Reception}
use Rattle.receiver.specs.declared.frame.Judged.{Judged}
use Rattle.receiver.specs.declared.frame.Judged.TheVariants.{Single, First, OverLong, Consecutive}
use Rattle.receiver.specs.Frames.{Frame}
use Rattle.receiver.specs.Steps.{Step, step_of, written_by, judged_place}
use Rattle.receiver.specs.Receiving.{buffer_after}
use Rattle.receiver.specs.Nodes.{reception_at, with_reception, sound_node, fresh_node}
use Rattle.trains.specs.Sequences.{Line, start, ◌▹◌, size, physical_of, seen, Elsewhere, elsewhere, Underway, begins, passes, goes_on}
use Rattle.trains.specs.Runs.{Held, answer, next, offered, handed, handed_at}
use Rattle.receiver.proofs.LawsFrames.{fair}
use Rattle.receiver.proofs.LawsNodes.{reception-same, own-stays, unit-stays, count-stays, fresh-own, fresh-unit, fresh-six, fresh-closed}
use Rattle.receiver.proofs.LawsRules.{sound-at, sound-with, fresh-sound}
use Rattle.receiver.proofs.LawsSteps.{Fitted, step-fitted, about, about-place, place-judged, length-after}
use Rattle.receiver.proofs.LawsGiven.{refused-gives, functional-gives}
use Rattle.receiver.proofs.LawsReceived.{received_is, buffer-is}
use Rattle.trains.proofs.LawsOthers.{unmoved}
use Rattle.trains.proofs.LawsSequences.{bounded}
use Rattle.trains.proofs.LawsFates.{Mine, a-single, a_first, an-over-long, a-consecutive, mine, whose, rests-on}
use Rattle.trains.proofs.LawsViews.{View, resting, receiving, Verdict, nothing, Advances, hands-out-by, single-out, none-stands, advance-mine}

mine-place : {q : Position} {j : Result Judged Refusal} → Mine q j → judged_place j ≡ place_of q
mine-place a-single = refl
mine-place a_first = refl
mine-place an-over-long = refl
mine-place a-consecutive = refl

module _ (own : Position) (unit : ℕ) where
  -- after h the node and its buffer keep their rules and hold, for each vehicle, what the sequence says
  pub record Tracks (h : Line) (x : Held) : Type 0 where
    pub own-place : x.node.own ≡ place_of own
    pub own_unit : x.node.unit ≡ unit
    pub six : length x.node.receptions ≡ 6
    pub sound : sound_node x.node ≡ true
    pub room : length x.buffer ≡ 1536
    pub views : (p : Position) → View own unit p h (reception_at x.node (place_of p)) x.buffer

  short : {p : Position} {h : Line} {r : Reception} {buffer : List ℕ} → View own unit p h r buffer → r.length ≤ 255
  short (resting e x) = rw e (omega arith)
  short (receiving e w) = let b = bounded w in rw e (omega arith)

  module _ (at-least : 1 ≤ place_of own) (h : Line) (f : Frame) (x : Held) (t : Tracks h x) where
    -- what the frame does if it is judged so, and what that hands out
    abbrev step_on : Result Judged Refusal → Step
    step_on i = step_of (reception_at x.node (judged_place i)) i (length f.bytes) f.stamp

    abbrev HandsOut : Step → Type 0
    HandsOut s = Verdict own unit h f (handed (size h) s.outcome f.bytes (written_by x.buffer s f.bytes))

    abbrev j : Result Judged Refusal
    j = seen own unit f

    abbrev step : Step
    step = step_on j

    abbrev after : Held
    after = record { node = with_reception x.node (judged_place j) step.reception; buffer = written_by x.buffer step f.bytes }

    abbrev ViewAfter : Position → Type 0
    ViewAfter q = View own unit q (h ▹ f) (reception_at after.node (place_of q)) after.buffer

    at_own : trailer_at x.node.own ≡ Some own
    at_own = ap trailer_at t.own-place ∙ trailer-back own at-least

    answer-is : answer x f ≡ record { node = after.node; outcome = step.outcome }
    answer-is = received_is x.node x.buffer own unit t.sound t.room at_own t.own_unit f.identifier f.bytes f.stamp

    buffer-next : buffer_after x.node x.buffer f.identifier f.bytes f.stamp ≡ after.buffer
    buffer-next = buffer-is x.node x.buffer own unit t.sound t.room at_own t.own_unit f.identifier f.bytes f.stamp

    fitted : Fitted (judged_place j) (length f.bytes) step
    fitted =
        let reception = sound-at x.node _ t.sound (place-judged j) in
        let least = subst (λ (i : ℕ). (reception_at x.node i).length ≤ 255) (about-place j) (short (t.views (about j))) in
        step-fitted own unit f.identifier _ f.bytes f.stamp j reception least (fair own unit f.identifier f.bytes j refl)

    -- ---- the vehicle whose physical frame it is
    advance : (q : Position) (i : Result Judged Refusal) → seen own unit f ≡ i → Mine q i → Advances own unit q h f x.buffer (step_of (reception_at x.node (place_of q)) i (length f.bytes) f.stamp)
    advance q i e m = advance-mine own unit q h f (reception_at x.node (place_of q)) x.buffer t.room i e m (t.views q)

    view-mine : (q : Position) → Mine q j → ViewAfter q
    view-mine q m =
        let s : ℕ → Step = λ i. step_of (reception_at x.node i) j (length f.bytes) f.stamp in
        let l = t.six in
        subst (λ (i : ℕ). View own unit q (h ▹ f) (reception_at (with_reception x.node i (s i).reception) (place_of q)) (written_by x.buffer (s i) f.bytes)) (sym (mine-place m))
        (rw (reception-same x.node (place_of q) (s (place_of q)).reception (omega (arith, place-below q))) (advance q j refl m).view)

    -- ---- every other vehicle
    view-elsewhere : (q : Position) → Elsewhere own unit q f → View own unit q h (reception_at x.node (place_of q)) x.buffer → ViewAfter q
    unfolding physical_of
    view-elsewhere q n (resting e r) = resting ((unmoved q x.node x.buffer f.bytes f.stamp j n fitted).reception ∙ e) (rests-on r (λ M d. n (ap physical_of d)))
    view-elsewhere q n (receiving {L} {k} {t = u} e w) =
        let m = unmoved q x.node x.buffer f.bytes f.stamp j n fitted in
        let b = bounded w in
        receiving (m.reception ∙ e) (subst (Underway own unit q (h ▹ f) L k u) (sym (m.part (5 + 6 * k) (omega arith))) (passes w (elsewhere n)))

    view-after : (q : Position) → Dec (physical_of j ≡ Some q) → ViewAfter q
    view-after q (yes e) = view-mine q (mine q j e)
    view-after q (no n) = view-elsewhere q n (t.views q)

    -- ---- what is handed out
    hands_out : (i : Result Judged Refusal) → seen own unit f ≡ i → HandsOut (step_on i)
    unfolding handed
    hands_out (Err why) e = hands-out-by own unit (refused-gives x.buffer f.bytes _ _ _ why) (nothing refl (none-stands own unit (Err why) tt e))
    hands_out (Ok (Single p true L)) e = hands-out-by own unit (functional-gives x.buffer f.bytes _ _ _ p L) (single-out own unit x.buffer e)
    hands_out (Ok (Single p false L)) e = (advance p _ e a-single).verdict
    hands_out (Ok (First p L)) e = (advance p _ e a_first).verdict
    hands_out (Ok (OverLong p)) e = (advance p _ e an-over-long).verdict
    hands_out (Ok (Consecutive p n)) e = (advance p _ e a-consecutive).verdict

    -- one frame further
    pub tracks_on : Tracks (h ▹ f) (next x f)
    tracks_on =
        let a : Tracks (h ▹ f) after = record {
          own-place = own-stays x.node (judged_place j) step.reception ∙ t.own-place;
          own_unit = unit-stays x.node (judged_place j) step.reception ∙ t.own_unit;
          six = count-stays x.node (judged_place j) step.reception ∙ t.six;
          sound = sound-with x.node (judged_place j) step.reception fitted.sound t.sound;
          room = length-after x.buffer step f.bytes ∙ t.room;
          views = λ q. view-after q (whose q (physical_of j));
        } in
        rw (answer-is, buffer-next) a

    pub verdict-at : Verdict own unit h f (handed (size h) (answer x f).outcome f.bytes (next x f).buffer)
    verdict-at = rw (answer-is, buffer-next) (hands_out j refl)

  -- ---- a fresh node, held with any buffer of 1,536 bytes
  rests-at-start : {p : Position} {h : Line} {L k t : ℕ} {b : List ℕ} → Underway own unit p h L k t b → h ≡ start → ⊥
  rests-at-start (begins e u c) s = let z : ◌≡◌ {A = ℕ} 0 1 = cc in omega arith
  rests-at-start (passes w x) s = let z : ◌≡◌ {A = ℕ} 0 1 = cc in omega arith
  rests-at-start (goes_on w x u l) s = let z : ◌≡◌ {A = ℕ} 0 1 = cc in omega arith

  abbrev pub fresh_held : List ℕ → Held
  fresh_held buffer = record { node = fresh_node (place_of own) unit; buffer = buffer }

  module _ (at-least : 1 ≤ place_of own) (buffer : List ℕ) (room : length buffer ≡ 1536) where
    tracks-start : Tracks start (fresh_held buffer)
    tracks-start = record {
      own-place = fresh-own (place_of own) unit;
      own_unit = fresh-unit (place_of own) unit;
      six = fresh-six (place_of own) unit;
      sound = fresh-sound (place_of own) unit at-least (omega (arith, place-below own));
      room = room;
      views = λ p. resting (fresh-closed (place_of own) unit (place_of p) (place-below p)) (λ L k t b w. rests-at-start w refl);
    }

    pub tracks : (h : Line) → Tracks h (offered (fresh_held buffer) h)
    unfolding offered
    tracks start = tracks-start
    tracks (h ▹ f) = tracks_on at-least h f (offered (fresh_held buffer) h) (tracks h)

    -- what is handed out at a frame is what stands there
    pub verdict : (h : Line) (f : Frame) → Verdict own unit h f (handed_at (fresh_held buffer) h f)
    unfolding handed_at offered
    verdict h f = verdict-at at-least h f (offered (fresh_held buffer) h) (tracks h)
