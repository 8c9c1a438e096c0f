-- A reception and its part of the buffer hold what the sequence says of their vehicle, and a physical frame of that vehicle takes this on to the next frame.
use Rattle.std.proofs.Common.{Result, Ok, Err}
use mathlib.Core.Path.{◌≡◌, refl, sym, ap, ◌∙◌, subst}
use mathlib.Core.Bool.{Bool, false}
use mathlib.Core.List.{List, [], ◌∷◌, ◌++◌}
use mathlib.Core.Logic.{◌≢◌}
use Prim.Native.Nat.{ℕ, suc, ◌+◌, ◌-◌, ◌*◌, ◌%◌, ◌≤◌, ◌<◌, min}
use native.Mathlib.Omega.{arith}
use lib.ListN.{length, take, drop, length-drop}
use lib.Seq.{length-take-le}
use Rattle.identifiers.specs.Bytes.{written}
use Rattle.identifiers.specs.Refusals.{refusal}
use Rattle.identifiers.specs.declared.refusal.Refusal.{Refusal}
use Rattle.identifiers.proofs.LawsParts.{grows}
use Rattle.readings.specs.declared.position.Position.{Position}
use Rattle.receiver.specs.declared.reception.Reception.{Reception}
use Rattle.receiver.specs.declared.frame.Judged.{Judged}
use Rattle.receiver.specs.declared.frame.Judged.TheVariants.{Single, First, OverLong, Consecutive}
use Rattle.receiver.specs.declared.outcome.Outcome.{Outcome}
use Rattle.receiver.specs.declared.outcome.Outcome.TheVariants as outcome
use Rattle.receiver.specs.Receptions.{closed, open_with, region_at}
use Rattle.receiver.specs.Frames.{Frame}
use Rattle.receiver.specs.Steps.{Step, closing, followed, step_of, written_by, Gives}
use Rattle.trains.specs.Sequences.{Line, ◌▹◌, size, physical_of, due, Request, seen, elsewhere, too_short, Next, Underway, begins, passes, goes_on, Complete, Stands, single, train}
use Rattle.trains.specs.Runs.{handed}
use Rattle.receiver.proofs.LawsFrames.{fair}
use Rattle.receiver.proofs.LawsFollowed.{consecutive-step, nothing-open, followed-short, followed-wrong, followed-late, followed-on, followed-last}
use Rattle.receiver.proofs.LawsSteps.{region-fits}
use Rattle.receiver.proofs.LawsGiven.{leaving-gives, closing-gives, stores-gives, physical-gives, over-long-gives, first_gives, shown-single, shown-train}
use Rattle.trains.specs.Terms.{Rests, Ends, by_single, by_first, by_over_long, by_number, by_lateness, Fate, passed_over, taken, completes, ended, Follows}
use Rattle.trains.proofs.LawsSequences.{grown, bounded}
use Rattle.trains.proofs.LawsFates.{Mine, a-single, a_first, an-over-long, a-consecutive, fate, rests-on, follows}

module _ (own : Position) (unit : ℕ) where
  -- the reception of p and the buffer, after h: closed where no train of p is under way, else open with its numbers, and its bytes are in p's part of the buffer
  pub data View (p : Position) (h : Line) (r : Reception) (buffer : List ℕ) : Type 0 where
    resting : r ≡ closed → Rests own unit p h → View p h r buffer
    receiving : {L k t : ℕ} → r ≡ open_with L k t → Underway own unit p h L k t (take (5 + 6 * k) (drop (region_at p) buffer)) → View p h r buffer

  -- r is what stands at f behind h: nothing, or one request
  pub data Verdict (h : Line) (f : Frame) (r : List Request) : Type 0 where
    nothing : r ≡ [] → ((p : Position) (functional : Bool) (m : List ℕ) → Stands own unit p functional h f m → ⊥) → Verdict h f r
    one : {p : Position} {functional : Bool} {m : List ℕ} → r ≡ record { at = size h; from = p; functional = functional; bytes = m } ∷ [] → Stands own unit p functional h f m → Verdict h f r

  -- a step of p's reception by f: what it leaves, and what it hands out
  pub record Advances (p : Position) (h : Line) (f : Frame) (buffer : List ℕ) (s : Step) : Type 0 where
    pub view : View p (h ▹ f) s.reception (written_by buffer s f.bytes)
    pub verdict : Verdict h f (handed (size h) s.outcome f.bytes (written_by buffer s f.bytes))

  -- what a step hands out, by what it gives; and what it leaves too
  pub hands-out-by : {h : Line} {f : Frame} {buffer : List ℕ} {s : Step} {r : Reception} {o : Result Outcome Refusal} {after : List ℕ} → Gives buffer f.bytes s r o after
      → Verdict h f (handed (size h) o f.bytes after) → Verdict h f (handed (size h) s.outcome f.bytes (written_by buffer s f.bytes))
  hands-out-by g v = rw (g.leaves, g.outcome) v

  advances-by : {p : Position} {h : Line} {f : Frame} {buffer : List ℕ} {s : Step} {r : Reception} {o : Result Outcome Refusal} {after : List ℕ} → Gives buffer f.bytes s r o after
      → View p (h ▹ f) r after → Verdict h f (handed (size h) o f.bytes after) → Advances p h f buffer s
  advances-by g w v = record { view = rw (g.leaves, g.reception) w; verdict = hands-out-by g v }

  -- a single frame is handed out
  pub single-out : {p : Position} {functional : Bool} {L : ℕ} {h : Line} {f : Frame} (after : List ℕ) → seen own unit f ≡ Ok (Single p functional L)
      → Verdict h f (handed (size h) (Ok (outcome.Single p functional L)) f.bytes after)
  unfolding handed
  single-out {p} {functional} {L} {h} {f} after is =
      one (ap (λ (m : List ℕ). record { at = size h; from = p; functional = functional; bytes = m } ∷ []) (shown-single f.bytes after p functional L)) (single is refl)

  -- ---- frames with which no request ends
  abbrev Silent : Result Judged Refusal → Type 0
  Silent (Err why) = Unit {0}
  Silent (Ok (Single p functional L)) = ⊥
  Silent (Ok (First p L)) = Unit {0}
  Silent (Ok (OverLong p)) = Unit {0}
  Silent (Ok (Consecutive p n)) = ⊥

  pub none-stands : {h : Line} {f : Frame} (j : Result Judged Refusal) → Silent j → seen own unit f ≡ j → (p : Position) (functional : Bool) (m : List ℕ) → Stands own unit p functional h f m → ⊥
  none-stands j s d p functional m (single e a) = subst Silent (sym d ∙ e) s
  none-stands j s d p functional m (train i x) = subst Silent (sym d ∙ x.last.in_order) s

  -- with a consecutive frame of p a train of p, if any
  pub only-train : {p : Position} {n : ℕ} {h : Line} {f : Frame} → seen own unit f ≡ Ok (Consecutive p n) → ((m : List ℕ) → Complete own unit p h f m → ⊥)
      → (q : Position) (functional : Bool) (m : List ℕ) → Stands own unit q functional h f m → ⊥
  only-train d x q functional m (single e a) = let z : ◌≡◌ {A = ℕ} 0 1 = cc in omega arith
  only-train {p} {n} {h} {f} d x q functional m (train i y) = let e = y.last.in_order in let s : q ≡ p = cc in x m (subst (λ (o : Position). Complete own unit o h f m) s y)

  module _ (p : Position) (h : Line) (f : Frame) (r : Reception) (buffer : List ℕ) (long : length buffer ≡ 1536) where
    -- ---- a frame that ends the train, where it is no first frame
    rests-ended : View p h r buffer → ((M : ℕ) → seen own unit f ≡ Ok (First p M) → ⊥) → ((L k t : ℕ) (b : List ℕ) → Ends own unit p L k t b f) → Rests own unit p (h ▹ f)
    unfolding Follows
    rests-ended (resting e x) n y L k t b w = rests-on x n L k t b w
    rests-ended (receiving e v) n y L k t b w = n L ((follows v (ended (y _ _ _ _))).0 L k t b w).1

    -- ---- a consecutive frame, where L bytes are to come, k frames are taken, and the last stamp is t
    module _ (L k t n : ℕ) (is : seen own unit f ≡ Ok (Consecutive p n)) (w : Underway own unit p h L k t (take (5 + 6 * k) (drop (region_at p) buffer))) where
      abbrev b : List ℕ
      b = take (5 + 6 * k) (drop (region_at p) buffer)

      abbrev step : Step
      step = followed (open_with L k t) p n (length f.bytes) f.stamp

      is_open : L ≢ 0
      is_open = let i = bounded w in λ (e : L ≡ 0). omega arith

      is-due : due L b ≡ min 6 (L - (5 + 6 * k))
      unfolding due
      is-due = ap (λ (i : ℕ). min 6 (L - i)) (bounded w).gathered

      -- the frame's first m message bytes, right behind those gathered
      abbrev behind : ℕ → List ℕ
      behind m = written buffer (region_at p + (5 + 6 * k)) (take m (drop 2 f.bytes))

      gathers : (m total : ℕ) → m ≡ due L b → 5 + 6 * k + m ≡ total → 2 + due L b ≤ length f.bytes → take total (drop (region_at p) (behind m)) ≡ b ++ take (due L b) (drop 2 f.bytes)
      gathers m total e u l =
          let i = bounded w in
          let d = is-due in
          let c : List ℕ = take m (drop 2 f.bytes) in
          let lc : length c ≡ m = length-take-le m (drop 2 f.bytes) (simp length-drop (omega arith)) in
          let v : total ≡ 5 + 6 * k + length c = omega arith in
          ap (λ (j : ℕ). take j (drop (region_at p) (behind m))) v
          ∙ grows buffer (region_at p) (5 + 6 * k) c (omega (arith, region-fits p))
          ∙ ap (λ (j : ℕ). b ++ take j (drop 2 f.bytes)) e

      advance-short : length f.bytes < 2 + due L b → Advances p h f buffer step
      unfolding handed Follows
      advance-short l =
          let d = is-due in
          subst (Advances p h f buffer) (sym (followed-short L k t p n (length f.bytes) f.stamp is_open (omega arith)))
          (advances-by (leaving-gives buffer f.bytes (open_with L k t) (Err (refusal 9))) (receiving refl (passes w (too_short is l)))
          (nothing refl (only-train is (follows w (passed_over (too_short is l))).1)))

      not_first : (M : ℕ) → seen own unit f ≡ Ok (First p M) → ⊥
      not_first M e = let z : ◌≡◌ {A = ℕ} 0 1 = cc in omega arith

      ended_so : (why : Refusal) → Ends own unit p L k t b f → Advances p h f buffer (closing (Err why))
      unfolding handed Follows
      ended_so why e =
          advances-by (closing-gives buffer f.bytes (Err why)) (resting refl (λ M i s c y. not_first M ((follows w (ended e)).0 M i s c y).1))
          (nothing refl (only-train is (follows w (ended e)).1))

      advance-ended : Ends own unit p L k t b f → Advances p h f buffer step
      advance-ended (by_single e) = let z : ◌≡◌ {A = ℕ} 0 1 = cc in absurd (omega arith)
      advance-ended (by_first e) = let z : ◌≡◌ {A = ℕ} 0 1 = cc in absurd (omega arith)
      advance-ended (by_over_long e) = let z : ◌≡◌ {A = ℕ} 0 1 = cc in absurd (omega arith)
      advance-ended (by_number e l x) =
          let d = is-due in
          let i : n ≢ suc k % 16 = λ (j : n ≡ suc k % 16). x (cc) in
          subst (Advances p h f buffer) (sym (followed-wrong L k t p n (length f.bytes) f.stamp is_open (omega arith) i)) (ended_so _ (by_number e l x))
      advance-ended (by_lateness e l x) =
          let d = is-due in
          let i : n ≡ suc k % 16 = cc in
          subst (Advances p h f buffer) (sym (followed-late L k t p n (length f.bytes) f.stamp is_open (omega arith) i x)) (ended_so _ (by_lateness e l x))

      advance-on : {c : List ℕ} → Next own unit p L k t b f c → length (b ++ c) < L → Advances p h f buffer step
      unfolding handed due Follows
      advance-on {c} x l =
          let d = is-due in
          let i = bounded w in
          let g : length (b ++ c) ≡ length b + due L b = grown x in
          let o : n ≡ suc k % 16 = (let e = x.in_order in cc) in
          let enough = x.long_enough in
          let e : take (5 + 6 * suc k) (drop (region_at p) (behind 6)) ≡ b ++ c = gathers 6 (5 + 6 * suc k) (omega arith) (omega arith) enough ∙ ap (λ (a : List ℕ). b ++ a) (sym x.bytes) in
          subst (Advances p h f buffer) (sym (followed-on L k t p n (length f.bytes) f.stamp is_open (omega arith) o x.in_time (omega arith)))
          (advances-by (stores-gives buffer f.bytes _ _ _ _ _) (receiving refl (subst (Underway own unit p (h ▹ f) L (suc k) f.stamp) (sym e) (goes_on w x refl l)))
          (nothing refl (only-train is (follows w (taken x l)).1)))

      advance-last : {c : List ℕ} → Next own unit p L k t b f c → L ≤ length (b ++ c) → Advances p h f buffer step
      unfolding handed due Follows
      advance-last {c} x l =
          let d = is-due in
          let i = bounded w in
          let g : length (b ++ c) ≡ length b + due L b = grown x in
          let o : n ≡ suc k % 16 = (let e = x.in_order in cc) in
          let enough = x.long_enough in
          let e : take L (drop (region_at p) (behind (L - (5 + 6 * k)))) ≡ b ++ c = gathers (L - (5 + 6 * k)) L (omega arith) (omega arith) enough ∙ ap (λ (a : List ℕ). b ++ a) (sym x.bytes) in
          let y = follows w (completes x l) in
          subst (Advances p h f buffer) (sym (followed-last L k t p n (length f.bytes) f.stamp is_open (omega arith) o x.in_time (omega arith)))
          (advances-by (stores-gives buffer f.bytes _ _ _ _ _) (resting refl y.1)
          (one (ap (λ (m : List ℕ). record { at = size h; from = p; functional = false; bytes = m } ∷ []) (shown-train f.bytes (behind (L - (5 + 6 * k))) p L ∙ e)) (train refl y.0)))

      advance-train : Fate own unit p L k t b f → Advances p h f buffer step
      unfolding physical_of
      advance-train (passed_over (elsewhere x)) = absurd (x (ap physical_of is))
      advance-train (passed_over (too_short e l)) = advance-short l
      advance-train (taken x l) = advance-on x l
      advance-train (completes x l) = advance-last x l
      advance-train (ended e) = advance-ended e

    -- ---- each physical frame of p
    advance-consecutive : (n : ℕ) → seen own unit f ≡ Ok (Consecutive p n) → View p h r buffer → Advances p h f buffer (followed r p n (length f.bytes) f.stamp)
    unfolding handed
    advance-consecutive n is (resting e x) =
        subst (Advances p h f buffer) (sym (ap (λ (c : Reception). followed c p n (length f.bytes) f.stamp) e ∙ nothing-open p n (length f.bytes) f.stamp))
        (advances-by (leaving-gives buffer f.bytes _ _) (resting refl (rests-on x (λ M (d : seen own unit f ≡ Ok (First p M)). let z : ◌≡◌ {A = ℕ} 0 1 = cc in omega arith)))
        (nothing refl (only-train is (λ m (y : Complete own unit p h f m). x _ _ _ _ y.underway))))
    advance-consecutive n is (receiving {L} {k} {t} e w) =
        subst (λ (c : Reception). Advances p h f buffer (followed c p n (length f.bytes) f.stamp)) (sym e) (advance-train L k t n is w (fate own unit p L k t _ f))

    opens : (L : ℕ) → seen own unit f ≡ Ok (First p L) → take 5 (drop (region_at p) (written buffer (region_at p) (take 5 (drop 3 f.bytes)))) ≡ take 5 (drop 3 f.bytes)
    opens L is =
        let s = (fair own unit f.identifier f.bytes _ is).1 in
        let c : List ℕ = take 5 (drop 3 f.bytes) in
        let lc : length c ≡ 5 = length-take-le 5 (drop 3 f.bytes) (simp length-drop (omega arith)) in
        let v : 5 ≡ 0 + length c = omega arith in
        let a : region_at p ≡ region_at p + 0 = omega arith in
        ap (λ (j : ℕ). take j (drop (region_at p) (written buffer (region_at p) c))) v
        ∙ ap (λ (j : ℕ). take (0 + length c) (drop (region_at p) (written buffer j c))) a
        ∙ grows buffer (region_at p) 0 c (omega (arith, region-fits p))

    pub advance-mine : (j : Result Judged Refusal) → seen own unit f ≡ j → Mine p j → View p h r buffer → Advances p h f buffer (step_of r j (length f.bytes) f.stamp)
    unfolding handed
    advance-mine _ is (a-single {L}) v =
        advances-by (physical-gives buffer f.bytes r (length f.bytes) f.stamp p L)
        (resting refl (rests-ended v (λ M (d : seen own unit f ≡ Ok (First p M)). let z : ◌≡◌ {A = ℕ} 0 1 = cc in omega arith) (λ L k t b. by_single is))) (single-out buffer is)
    advance-mine _ is (a_first {L}) v =
        advances-by (first_gives buffer f.bytes r (length f.bytes) f.stamp p L) (receiving refl (begins is refl (opens L is))) (nothing refl (none-stands (Ok (First p L)) tt is))
    advance-mine _ is an-over-long v =
        advances-by (over-long-gives buffer f.bytes r (length f.bytes) f.stamp p)
        (resting refl (rests-ended v (λ M (d : seen own unit f ≡ Ok (First p M)). let z : ◌≡◌ {A = ℕ} 0 1 = cc in omega arith) (λ L k t b. by_over_long is))) (nothing refl (none-stands (Ok (OverLong p)) tt is))
    advance-mine _ is (a-consecutive {n}) v =
        subst (Advances p h f buffer) (sym (consecutive-step r p n (length f.bytes) f.stamp)) (advance-consecutive n is v)
