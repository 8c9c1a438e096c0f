-- A train is judged by its own vehicle's frames alone: frames that stand elsewhere may be left out of the sequence.
use Rattle.std.proofs.Common.{Result}
use mathlib.Core.Path.{◌≡◌, refl, sym, ap, ◌∙◌, subst}
use mathlib.Core.Bool.{Bool, true, false}
use mathlib.Core.List.{List}
use mathlib.Core.Logic.{◌≢◌}
use Prim.Native.Nat.{ℕ, ◌%◌, ◌^◌}
use borrow.Author.Tests.{eqb-false}
use Rattle.identifiers.specs.Choice.{pick}
use Rattle.identifiers.specs.Identifiers.{fields_of}
use Rattle.identifiers.proofs.LawsIdentifiers.{source_is}
use Rattle.identifiers.specs.declared.refusal.Refusal.{Refusal}
use Rattle.readings.specs.Positions.{address_of}
use Rattle.readings.specs.declared.position.Position.{Position}
use Rattle.receiver.specs.declared.frame.Judged.{Judged}
use Rattle.receiver.specs.Frames.{Frame}
use Rattle.trains.specs.Sequences.{Line, start, ◌▹◌, physical_of, seen, Elsewhere, elsewhere, Underway, begins, passes, goes_on, Complete}
use Rattle.trains.specs.Terms.{only, from_address}
use Rattle.receiver.proofs.LawsFrames.{Fair, fair}
use Rattle.trains.proofs.LawsFates.{Mine, a-single, a_first, an-over-long, a-consecutive, mine}

module _ (own : Position) (unit : ℕ) (p : Position) where
  -- ---- whose frame it is, by its SA
  mine-source : (n : ℕ) (bytes : List ℕ) (j : Result Judged Refusal) → Mine p j → Fair own unit n bytes j → (fields_of n).source ≡ address_of p
  mine-source n bytes _ a-single s = s.0.source
  mine-source n bytes _ a_first s = s.0.source
  mine-source n bytes _ an-over-long s = s.0.source
  mine-source n bytes _ a-consecutive s = s.0.source

  pub elsewhere-by-source : (f : Frame) → f.identifier % 2 ^ 8 ≢ address_of p → Elsewhere own unit p f
  elsewhere-by-source f n e = n (sym (source_is f.identifier) ∙ mine-source f.identifier f.bytes (seen own unit f) (mine p (seen own unit f) e) (fair own unit f.identifier f.bytes _ refl))

  pub others-by-address : (f : Frame) → from_address p f ≡ false → Elsewhere own unit p f
  others-by-address f e = elsewhere-by-source f (eqb-false _ _ e)

  -- ---- frames that stand elsewhere, left out
  module _ (mark : Frame → Bool) (others : (f : Frame) → mark f ≡ false → Elsewhere own unit p f) where
    -- a frame with the mark stays, and one without falls out
    either_way : (h : Line) (f : Frame) (i : Bool) {L k t : ℕ} {b : List ℕ} → mark f ≡ i → Underway own unit p (only mark h ▹ f) L k t b
        → (mark f ≡ false → Underway own unit p (only mark h) L k t b) → Underway own unit p (pick i (only mark h ▹ f) (only mark h)) L k t b
    unfolding pick
    either_way h f true d w v = w
    either_way h f false d w v = v d

    into : {h : Line} {L k t : ℕ} {b : List ℕ} → Underway own unit p h L k t b → Underway own unit p (only mark h) L k t b
    unfolding only physical_of
    into (begins {h = h} {f} e u c) = either_way h f (mark f) refl (begins e u c) (λ d. absurd (others f d (ap physical_of e)))
    into (passes {h = h} {f} w x) = either_way h f (mark f) refl (passes (into w) x) (λ d. into w)
    into (goes_on {h = h} {f} w n u l) = either_way h f (mark f) refl (goes_on (into w) n u l) (λ d. absurd (others f d (ap physical_of n.in_order)))

    put_back : (h : Line) (f : Frame) (i : Bool) {L k t : ℕ} {b : List ℕ} → mark f ≡ i
        → ((M n u : ℕ) (c : List ℕ) → Underway own unit p (only mark h) M n u c → Underway own unit p h M n u c)
        → Underway own unit p (pick i (only mark h ▹ f) (only mark h)) L k t b → Underway own unit p (h ▹ f) L k t b
    unfolding pick
    put_back h f true d back (begins e u c) = begins e u c
    put_back h f true d back (passes w x) = passes (back _ _ _ _ w) x
    put_back h f true d back (goes_on w n u l) = goes_on (back _ _ _ _ w) n u l
    put_back h f false d back w = passes (back _ _ _ _ w) (elsewhere (others f d))

    out_of : (h : Line) (L k t : ℕ) (b : List ℕ) → Underway own unit p (only mark h) L k t b → Underway own unit p h L k t b
    unfolding only
    out_of start L k t b w = w
    out_of (h ▹ f) L k t b w = put_back h f (mark f) refl (out_of h) w

    pub alone : (h g : Line) {f : Frame} {m : List ℕ} → only mark h ≡ only mark g → Complete own unit p h f m → Complete own unit p g f m
    alone h g e x = record {
      L = x.L;
      k = x.k;
      t = x.t;
      b = x.b;
      c = x.c;
      underway = out_of g x.L x.k x.t x.b (subst (λ (l : Line). Underway own unit p l x.L x.k x.t x.b) e (into x.underway));
      last = x.last;
      whole = x.whole;
      bytes = x.bytes;
    }
