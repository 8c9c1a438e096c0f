-- Demand 3, proved: each statement of `Demands`.
use mathlib.Core.Path.{◌≡◌, refl, sym, ap, ◌∙◌, subst}
use mathlib.Core.Bool.{Bool, false}
use mathlib.Core.List.{List, [], ◌∷◌, ◌++◌, append_assoc}
use mathlib.Core.Logic.{◌≢◌, ◌↔◌}
use Prim.Native.Nat.{ℕ, ◌≤◌}
use native.Mathlib.Omega.{arith}
use lib.Dec.{lit<, lit≤}
use lib.ListN.{length, replicate, length-replicate}
use Rattle.readings.specs.Positions.{place_of}
use Rattle.readings.specs.declared.position.Position.{Position}
use Rattle.receiver.specs.Frames.{Frame}
use Rattle.trains.specs.Sequences.{Line, start, ◌▹◌, Request, Stands, ReadAs, none_yet, no_more, one_more}
use Rattle.trains.specs.Runs.{Held, handed_at, requests}
use Rattle.trains.specs.Terms.{same, later, from_address}
use Rattle.receiver.specs.Nodes.{Node}
use Rattle.receiver.proofs.LawsNodes.{made-fresh, start-fresh}
use Rattle.receiver.proofs.LawsFollowed.{gap-on}
use Rattle.receiver.proofs.LawsCutter.{none-16, cut-16, only-16}
use Rattle.receiver.proofs.LawsKinds.{single-is, first-is, over-long-is, consecutive-is}
use Rattle.trains.proofs.LawsSequences.{same-train, one-request, readings-agree, once}
use Rattle.trains.proofs.LawsFates.{fate, follows, elsewhere-is}
use Rattle.trains.proofs.LawsViews.{Verdict, nothing, one}
use Rattle.trains.proofs.LawsTracks.{fresh_held, verdict}
use Rattle.trains.proofs.LawsCarried.{whole, request-bounds}
use Rattle.trains.proofs.LawsOwn.{elsewhere-by-source, others-by-address, alone}
use Rattle.trains.proofs.LawsReadBack.{cut-single, cut-first, cut-consecutive}
use Rattle.trains.proofs.LawsSent.{sent-stands, sent-whole, read-after}
use Rattle.trains.specs.Demands.{Fresh, request_at, MakersAreFresh, Exactness, NothingElse, AtMostOne, RequestsAreTheReading, RequestLength, RoundTrip, StaysAfterwards, OneReading, SomeReading, OneStart}
use Rattle.trains.specs.Demands.{OneEnd, CompleteLength, OwnFramesAlone, PhysicalFramesAlone, NotItsOwn, KindsOnTheWire, WhatIsElsewhere, FourFates, WhatFollows, ReadBack, Sendable, CutTakenApart, CutterRefuses}

pub makers-are-fresh : MakersAreFresh
makers-are-fresh own unit h = (made-fresh own unit h, start-fresh unit)

module _ (own : Position) (unit : ℕ) (x : Held) (fresh : Fresh own unit x) where
  verdict-at : (h : Line) (f : Frame) → Verdict own unit h f (handed_at x h f)
  verdict-at h f =
      let e : x ≡ fresh_held own unit x.buffer = ap (λ (n : Node). record { node = n; buffer = x.buffer }) fresh.node in
      subst (λ (y : Held). Verdict own unit h f (handed_at y h f)) (sym e) (verdict own unit fresh.trailer x.buffer fresh.room h f)

  pub exactness : Exactness own unit x
  exactness h f p functional m = go (verdict-at h f)
    where
      go : {r : List Request} → Verdict own unit h f r → r ≡ request_at h p functional m ∷ [] ↔ Stands own unit p functional h f m
      go {r} (nothing e n) = (λ (d : r ≡ request_at h p functional m ∷ []). let z : ◌≡◌ {A = ℕ} 0 1 = cc in absurd (omega arith), λ s. absurd (n p functional m s))
      go {r} (one {p = q} {functional = other} {m = n} e s) = (
        λ (d : r ≡ request_at h p functional m ∷ []).
            let i : request_at h q other n ≡ request_at h p functional m = cc in subst (λ (o : Request). Stands own unit o.from o.functional h f o.bytes) i s,
        λ (y : Stands own unit p functional h f m). let a = one-request s y in e ∙ (cc),
      )

  pub nothing_else : NothingElse own unit x
  nothing_else h f = go (verdict-at h f)
    where
      go : {r : List Request} → Verdict own unit h f r → r ≡ [] ↔ ((p : Position) (functional : Bool) (m : List ℕ) → Stands own unit p functional h f m → ⊥)
      go (nothing e n) = (λ d. n, λ z. e)
      go {r} (one e s) = (λ (d : r ≡ []). let z : ◌≡◌ {A = ℕ} 0 1 = cc in absurd (omega arith), λ z. absurd (z _ _ _ s))

  pub at_most_one : AtMostOne own unit x
  at_most_one h f = go (verdict-at h f)
    where
      go : {r : List Request} → Verdict own unit h f r → length r ≤ 1
      go (nothing e n) = rw e (omega arith)
      go (one e s) = rw e (omega arith)

  reads : (h : Line) → ReadAs own unit h (requests x h)
  unfolding requests
  reads start = none_yet
  reads (h ▹ f) = go (verdict-at h f) (reads h)
    where
      go : {r : List Request} → Verdict own unit h f r → ReadAs own unit h (requests x h) → ReadAs own unit (h ▹ f) (r ++ requests x h)
      go (nothing e n) y = rw e (no_more y n)
      go (one e s) y = rw e (one_more y s)

  pub requests-are-the-reading : RequestsAreTheReading own unit x
  requests-are-the-reading h r = (λ y. readings-agree (reads h) y, λ e. subst (ReadAs own unit h) e (reads h))

  pub request-length : RequestLength own unit x
  request-length h f q = go (verdict-at h f)
    where
      go : {r : List Request} → Verdict own unit h f r → r ≡ q ∷ [] → (1 ≤ length q.bytes) × (length q.bytes ≤ 255) × (place_of q.from ≢ place_of own)
      go {r} (nothing e n) d = let z : ◌≡◌ {A = ℕ} 0 1 = cc in absurd (omega arith)
      go {r} (one {p} {functional} {m} e s) d =
          let i : request_at h p functional m ≡ q = cc in
          subst (λ (o : Request). (1 ≤ length o.bytes) × (length o.bytes ≤ 255) × (place_of o.from ≢ place_of own)) i (request-bounds s)

  pub round_trip : RoundTrip own unit x
  unfolding requests
  round_trip p m other some most h f s = ap (λ (r : List Request). r ++ requests x h) ((exactness h f p false m).1 (sent-stands own unit p m other some most s))

  pub stays-afterwards : StaysAfterwards own unit x
  unfolding requests
  stays-afterwards h _ same = ([], refl)
  stays-afterwards h _ (later {g} {f} w) = let i = stays-afterwards h g w in (handed_at x g f ++ i.0, ap (λ (r : List Request). handed_at x g f ++ r) i.1 ∙ sym (append_assoc (handed_at x g f) i.0 (requests x h)))

module _ (own : Position) (unit : ℕ) where
  pub one-reading : OneReading own unit
  one-reading h r s a b = readings-agree a b

  pub some-reading : SomeReading own unit
  some-reading l h =
      let x : Held = fresh_held own unit (replicate 1536 0) in
      (requests x h, reads own unit x (record { trailer = l; node = refl; room = length-replicate {A = ℕ} 1536 0 }) h)

  pub one-start : OneStart own unit
  one-start p h f m n a b = same-train a b

  pub one_end : OneEnd own unit
  one_end p h g f m a w L k t b y = once a y w

  pub complete-length : CompleteLength own unit
  complete-length p h f m a = whole a

  pub physical-frames-alone : PhysicalFramesAlone own unit
  physical-frames-alone p mark others h g e f m a = alone own unit p mark others h g e a

  pub own-frames-alone : OwnFramesAlone own unit
  own-frames-alone p h g e f m a = physical-frames-alone p (from_address p) (others-by-address own unit p) h g e f m a

  pub not-its-own : NotItsOwn own unit
  not-its-own p f n = elsewhere-by-source own unit p f n

  pub kinds-on-the-wire : KindsOnTheWire own unit
  kinds-on-the-wire p f = (
    λ functional L. single-is own unit f.identifier f.bytes p functional L,
    λ L. first-is own unit f.identifier f.bytes p L,
    over-long-is own unit f.identifier f.bytes p,
    λ n. consecutive-is own unit f.identifier f.bytes p n,
  )

  pub what-is-elsewhere : WhatIsElsewhere own unit
  what-is-elsewhere p f = elsewhere-is own unit p f

  pub four-fates : FourFates own unit
  four-fates p L k t b f = fate own unit p L k t b f

  pub what-follows : WhatFollows own unit
  what-follows p h L k t b f w x = follows w x

  pub read_back : ReadBack own unit
  read_back p m other some most stamps timely h r x = read-after own unit p m other some most stamps h timely r x

  pub sendable : Sendable own unit
  sendable p m other some most h = sent-whole own unit p m other some most (λ k. 0) h (λ k l. omega (arith, gap-on 0 0 (lit≤ tt) (lit< tt)))

  pub cut-taken-apart : CutTakenApart own unit
  cut-taken-apart p m other t = (cut-single own unit p m other t, λ long most. cut-first own unit p m other long most t, λ long most k l. cut-consecutive own unit p m other long most k t l)

pub cutter-refuses : CutterRefuses
cutter-refuses m k from to unit = ((only-16 m k from to unit, λ u. cut-16 m k from to unit u ∙ none-16), cut-16 m k from to unit)
