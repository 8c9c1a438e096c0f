-- What a frame does to a train: it is passed over, taken, completes it or ends it, and what stands afterwards in each case.
use Rattle.std.specs.Prelude.{Option, Some, None}
use Rattle.std.proofs.Common.{Result, Ok, Err}
use mathlib.Core.Path.{◌≡◌, refl, sym, ap, ◌∙◌, subst}
use mathlib.Core.Bool.{true, false}
use mathlib.Core.List.{List, ◌++◌}
use mathlib.Core.Logic.{◌↔◌}
use Prim.Native.Nat.{ℕ, suc, ◌+◌, ◌%◌, ◌≤◌, ◌<◌}
use native.Mathlib.Decide.{dec_lt, ℕ_discrete}
use native.Mathlib.Omega.{arith}
use lib.ListN.{length, take, drop}
use Rattle.identifiers.specs.declared.refusal.Refusal.{Refusal}
use Rattle.readings.specs.Positions.{place_of}
use Rattle.readings.specs.declared.position.Position.{Position}
use Rattle.readings.proofs.LawsPositions.{places-differ}
use Rattle.receiver.specs.declared.frame.Judged.{Judged}
use Rattle.receiver.specs.declared.frame.Judged.TheVariants.{Single, First, OverLong, Consecutive}
use Rattle.receiver.specs.Frames.{Frame}
use Rattle.receiver.specs.Steps.{gap_of}
use Rattle.trains.specs.Sequences.{Line, ◌▹◌, physical_of, due, seen, Elsewhere, elsewhere, too_short, Next, Underway, begins, passes, goes_on, Complete}
use Rattle.receiver.proofs.LawsFrames.{refused-number}
use Rattle.trains.proofs.LawsSequences.{one-underway, passed-next, grown, completed}
use Rattle.trains.specs.Terms.{origin, Rests, Aside, by_refusal, by_function, by_vehicle, Ends, by_single, by_first, by_over_long, by_number, by_lateness, Fate, passed_over, taken, completes, ended, Follows}

-- ---- a physical frame of p is one of four
pub data Mine (p : Position) : Result Judged Refusal → Type 0 where
  a-single : {L : ℕ} → Mine p (Ok (Single p false L))
  a_first : {L : ℕ} → Mine p (Ok (First p L))
  an-over-long : Mine p (Ok (OverLong p))
  a-consecutive : {n : ℕ} → Mine p (Ok (Consecutive p n))

pub mine : (p : Position) (j : Result Judged Refusal) → physical_of j ≡ Some p → Mine p j
unfolding physical_of
mine p (Err why) e = let z : ◌≡◌ {A = ℕ} 0 1 = cc in absurd (omega arith)
mine p (Ok (Single q true L)) e = let z : ◌≡◌ {A = ℕ} 0 1 = cc in absurd (omega arith)
mine p (Ok (Single q false L)) e = let s : p ≡ q = cc in subst (λ (x : Position). Mine p (Ok (Single x false L))) s a-single
mine p (Ok (First q L)) e = let s : p ≡ q = cc in subst (λ (x : Position). Mine p (Ok (First x L))) s a_first
mine p (Ok (OverLong q)) e = let s : p ≡ q = cc in subst (λ (x : Position). Mine p (Ok (OverLong x))) s an-over-long
mine p (Ok (Consecutive q n)) e = let s : p ≡ q = cc in subst (λ (x : Position). Mine p (Ok (Consecutive x n))) s a-consecutive

pub whose : (p : Position) (v : Option Position) → Dec (v ≡ Some p)
whose p None = no (λ (e : None ≡ Some p). let z : ◌≡◌ {A = ℕ} 0 1 = cc in omega arith)
whose p (Some q) = go (ℕ_discrete (place_of q) (place_of p))
  where
    go : Dec (place_of q ≡ place_of p) → Dec (Some q ≡ Some p)
    go (yes e) = yes (ap Some (places-differ q p e))
    go (no n) = no (λ (e : Some q ≡ Some p). let s : q ≡ p = cc in n (ap place_of s))

-- ---- every frame has one of the four fates
module _ (own : Position) (unit : ℕ) (p : Position) (L k t : ℕ) (b : List ℕ) (f : Frame) where
  fate-in-order : seen own unit f ≡ Ok (Consecutive p (suc k % 16)) → 2 + due L b ≤ length f.bytes → Dec (150 < gap_of f.stamp t)
      → Dec (length (b ++ take (due L b) (drop 2 f.bytes)) < L) → Fate own unit p L k t b f
  fate-in-order e l (yes x) d = ended (by_lateness e l x)
  fate-in-order e l (no x) (yes y) = taken (record { in_order = e; in_time = omega arith; long_enough = l; bytes = refl }) y
  fate-in-order e l (no x) (no y) = completes (record { in_order = e; in_time = omega arith; long_enough = l; bytes = refl }) (omega arith)

  fate-consecutive : {n : ℕ} → seen own unit f ≡ Ok (Consecutive p n) → Dec (length f.bytes < 2 + due L b) → Dec (n ≡ suc k % 16) → Fate own unit p L k t b f
  fate-consecutive e (yes x) d = passed_over (too_short e x)
  fate-consecutive e (no x) (no y) = ended (by_number e (omega arith) y)
  fate-consecutive e (no x) (yes y) = fate-in-order (e ∙ ap (λ (i : ℕ). Ok (Consecutive p i)) y) (omega arith) (dec_lt _ _) (dec_lt _ _)

  fate-mine : (j : Result Judged Refusal) → seen own unit f ≡ j → Mine p j → Fate own unit p L k t b f
  fate-mine _ e a-single = ended (by_single e)
  fate-mine _ e a_first = ended (by_first e)
  fate-mine _ e an-over-long = ended (by_over_long e)
  fate-mine _ e a-consecutive = fate-consecutive e (dec_lt _ _) (ℕ_discrete _ _)

  pub fate : Fate own unit p L k t b f
  fate = go (whose p (physical_of (seen own unit f)))
    where
      go : Dec (physical_of (seen own unit f) ≡ Some p) → Fate own unit p L k t b f
      go (yes e) = fate-mine (seen own unit f) refl (mine p (seen own unit f) e)
      go (no n) = passed_over (elsewhere n)

-- ---- what stands afterwards
module _ {own : Position} {unit : ℕ} {p : Position} {f : Frame} where
  ends-physical : {L k t : ℕ} {b : List ℕ} → Ends own unit p L k t b f → physical_of (seen own unit f) ≡ Some p
  unfolding physical_of
  ends-physical (by_single e) = ap physical_of e
  ends-physical (by_first e) = ap physical_of e
  ends-physical (by_over_long e) = ap physical_of e
  ends-physical (by_number e l n) = ap physical_of e
  ends-physical (by_lateness e l g) = ap physical_of e

  ends-short : {L k t M n : ℕ} {b c : List ℕ} → Ends own unit p L k t b f → seen own unit f ≡ Ok (Consecutive p n) → length f.bytes < 2 + due M c → L ≡ M → b ≡ c → ⊥
  ends-short (by_single e) d s i j = let z : ◌≡◌ {A = ℕ} 0 1 = cc in omega arith
  ends-short (by_first e) d s i j = let z : ◌≡◌ {A = ℕ} 0 1 = cc in omega arith
  ends-short (by_over_long e) d s i j = let z : ◌≡◌ {A = ℕ} 0 1 = cc in omega arith
  ends-short {L = L} {M = M} {b = b} {c = c} (by_number e l n) d s i j = let x : due L b ≡ due M c = cc in omega arith
  ends-short {L = L} {M = M} {b = b} {c = c} (by_lateness e l g) d s i j = let x : due L b ≡ due M c = cc in omega arith

  ends_next : {L k t M i s : ℕ} {b c d : List ℕ} → Ends own unit p L k t b f → Next own unit p M i s c f d → k ≡ i → t ≡ s → ⊥
  ends_next (by_single e) n i j = let d = n.in_order in let z : ◌≡◌ {A = ℕ} 0 1 = cc in omega arith
  ends_next (by_first e) n i j = let d = n.in_order in let z : ◌≡◌ {A = ℕ} 0 1 = cc in omega arith
  ends_next (by_over_long e) n i j = let d = n.in_order in let z : ◌≡◌ {A = ℕ} 0 1 = cc in omega arith
  ends_next (by_number e l x) n i j = let d = n.in_order in x (cc)
  ends_next {t = t} {s = s} (by_lateness e l g) n i j = let x : gap_of f.stamp t ≡ gap_of f.stamp s = cc in let d = n.in_time in omega arith

  -- after a frame that ends the train only one that begins with this frame is under way
  begins-anew : {h : Line} {L k t M i s : ℕ} {b c : List ℕ} → Underway own unit p h L k t b → Ends own unit p L k t b f → (y : Underway own unit p (h ▹ f) M i s c)
      → (origin y ≡ h) × (seen own unit f ≡ Ok (First p M))
  begins-anew w e (begins d u a) = (refl, d)
  begins-anew w e (passes y (elsewhere x)) = absurd (x (ends-physical e))
  begins-anew w e (passes y (too_short d l)) = let s = one-underway w y in absurd (ends-short e d l s.long s.bytes)
  begins-anew w e (goes_on y n u l) = let s = one-underway w y in absurd (ends_next e n s.count s.stamp)

  -- where none is under way, a first frame alone begins one
  pub rests-on : {h : Line} → Rests own unit p h → ((M : ℕ) → seen own unit f ≡ Ok (First p M) → ⊥) → Rests own unit p (h ▹ f)
  rests-on r n L k t b (begins e u c) = n L e
  rests-on r n L k t b (passes w x) = r _ _ _ _ w
  rests-on r n L k t b (goes_on w x u l) = r _ _ _ _ w

  -- ---- a complete train is the one that was under way
  of-underway : {h : Line} {L k t : ℕ} {b m : List ℕ} → Underway own unit p h L k t b → (x : Complete own unit p h f m) → Next own unit p L k t b f x.c × (L ≤ length (b ++ x.c))
  of-underway {h} {L} {k} {t} {b} w x =
      let s = one-underway x.underway w in
      let l = x.last in
      let e : due x.L x.b ≡ due L b = ap (λ (i : ℕ). due i x.b) s.long ∙ ap (due L) s.bytes in
      let whole = x.whole in
      let i : length (x.b ++ x.c) ≡ length (b ++ x.c) = ap (λ (d : List ℕ). length (d ++ x.c)) s.bytes in
      let j = s.long in (
        record {
          in_order = l.in_order ∙ ap (λ (i : ℕ). Ok (Consecutive p (suc i % 16))) s.count;
          in_time = subst (λ (i : ℕ). gap_of f.stamp i ≤ 150) s.stamp l.in_time;
          long_enough = subst (λ (i : ℕ). 2 + i ≤ length f.bytes) e l.long_enough;
          bytes = l.bytes ∙ ap (λ (i : ℕ). take i (drop 2 f.bytes)) e;
        },
        omega arith,
      )

  -- ---- so each fate has its consequence
  pub follows : {h : Line} {L k t : ℕ} {b : List ℕ} → Underway own unit p h L k t b → (x : Fate own unit p L k t b f) → Follows own unit p h L k t b f x
  unfolding Follows
  follows w (passed_over x) = (passes w x, λ m a. passed-next x (of-underway w a).0 refl refl)
  follows {h} w (taken n l) =
      (goes_on w n refl l, λ m (a : Complete own unit p h f m). let z = of-underway w a in let g = grown z.0 in let e = grown n in let d = z.1 in omega arith)
  follows {h} {L} {k} {t} {b} w (completes {c} n l) =
      let a : Complete own unit p h f (b ++ c) = record { L = L; k = k; t = t; b = b; c = c; underway = w; last = n; whole = l; bytes = refl } in
      (a, completed a)
  follows w (ended e) = (λ M i s c y. begins-anew w e y, λ m a. ends_next e (of-underway w a).0 refl refl)

-- ---- what stands elsewhere, by its cases
module _ (own : Position) (unit : ℕ) (p : Position) (f : Frame) where
  aside-from : (j : Result Judged Refusal) → seen own unit f ≡ j → (physical_of j ≡ Some p → ⊥) → Aside own unit p f
  unfolding physical_of
  aside-from (Err why) e n = let s = refused-number own unit f.identifier f.bytes why e in by_refusal e s.0 s.1
  aside-from (Ok (Single q true L)) e n = by_function e
  aside-from (Ok (Single q false L)) e n = by_vehicle (ap physical_of e) (λ d. n (ap Some d))
  aside-from (Ok (First q L)) e n = by_vehicle (ap physical_of e) (λ d. n (ap Some d))
  aside-from (Ok (OverLong q)) e n = by_vehicle (ap physical_of e) (λ d. n (ap Some d))
  aside-from (Ok (Consecutive q k)) e n = by_vehicle (ap physical_of e) (λ d. n (ap Some d))

  aside-elsewhere : Aside own unit p f → Elsewhere own unit p f
  unfolding physical_of
  aside-elsewhere (by_refusal e a b) i = let d : None ≡ Some p = sym (ap physical_of e) ∙ i in let z : ◌≡◌ {A = ℕ} 0 1 = cc in omega arith
  aside-elsewhere (by_function e) i = let d : None ≡ Some p = sym (ap physical_of e) ∙ i in let z : ◌≡◌ {A = ℕ} 0 1 = cc in omega arith
  aside-elsewhere (by_vehicle e n) i = n (cc)

  pub elsewhere-is : Elsewhere own unit p f ↔ Aside own unit p f
  elsewhere-is = (λ n. aside-from (seen own unit f) refl n, aside-elsewhere)
