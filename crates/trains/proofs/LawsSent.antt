-- A message that is cut and sent in time stands in the sequence, unchanged, at its last frame; nothing stands at the frames before it.
use Rattle.std.proofs.Common.{Ok}
use mathlib.Core.Path.{◌≡◌, refl, sym, ap, ◌∙◌}
use mathlib.Core.Bool.{Bool, false}
use mathlib.Core.List.{List, ◌∷◌, ◌++◌}
use mathlib.Core.Logic.{◌≢◌}
use Prim.Native.Nat.{ℕ, zero, suc, ◌+◌, ◌-◌, ◌*◌, ◌/◌, ◌≤◌, ◌<◌, min}
use native.Mathlib.Decide.{dec_lt}
use native.Mathlib.Omega.{arith}
use lib.ListN.{length, take, drop, length-take, length-drop}
use lib.Seq.{take-add, take_all, take-take, take-length}
use Rattle.readings.specs.Positions.{place_of}
use Rattle.readings.specs.declared.position.Position.{Position}
use Rattle.receiver.specs.declared.frame.Judged.TheVariants.{First}
use Rattle.receiver.specs.Frames.{Frame}
use Rattle.receiver.specs.Steps.{gap_of}
use Rattle.receiver.specs.Cuts.{frame_count}
use Rattle.trains.specs.Sequences.{Line, ◌▹◌, size, due, Request, elsewhere, Next, Underway, begins, passes, goes_on, Complete, Stands, single, train, ReadAs, no_more, one_more}
use Rattle.trains.specs.Terms.{taken, Follows, cut_frame, Sent, first_sent, between, next_sent, SentWhole, alone, last_sent, sends, InTime}
use Rattle.receiver.proofs.LawsPieces.{frames-one, frames-many}
use Rattle.trains.proofs.LawsReadBack.{cut-single, cut-first, cut-consecutive}
use Rattle.trains.proofs.LawsFates.{follows}
use Rattle.trains.proofs.LawsViews.{none-stands, only-train}

module _ (own : Position) (unit : ℕ) (p : Position) (m : List ℕ) (other : place_of p ≢ place_of own) where
  -- ---- a message of more than six bytes is a train
  module _ (long : 7 ≤ length m) (most : length m ≤ 255) where
    pub many : frame_count (length m) ≡ 1 + (length m - 5 + 5) / 6
    many = frames-many (length m) long most

    -- the bytes that go before consecutive frame k + 1, and those with it
    grows : (k : ℕ) → take (5 + 6 * k) m ++ take 6 (drop (5 + 6 * k) m) ≡ take (5 + 6 * suc k) m
    grows k = let e : 5 + 6 * k + 6 ≡ 5 + 6 * suc k = omega arith in sym (take-add (5 + 6 * k) 6 m) ∙ ap (λ (n : ℕ). take n m) e

    is-next : (k t u : ℕ) → suc k < frame_count (length m) → gap_of u t ≤ 150
        → Next own unit p (length m) k t (take (5 + 6 * k) m) (cut_frame own unit p m (suc k) u) (take 6 (drop (5 + 6 * k) m))
    unfolding due
    is-next k t u h g =
        let n = many in
        let c : List ℕ = take 6 (drop (5 + 6 * k) m) in
        let x = cut-consecutive own unit p m other long most k u h in
        let e : length c ≡ min 6 (length m - length (take (5 + 6 * k) m)) = simp (length-take, length-drop) (omega arith) in
        let l : length (cut_frame own unit p m (suc k) u).bytes ≡ 2 + length c = ap length x.data_bytes ∙ (omega arith) in
        record {
          in_order = x.kind;
          in_time = g;
          long_enough = omega arith;
          bytes = sym (take-length c) ∙ ap (λ (i : ℕ). take i c) e ∙ ap (λ (b : List ℕ). take (min 6 (length m - length (take (5 + 6 * k) m))) (drop 2 b)) (sym x.data_bytes);
        }

    -- before the last frame bytes are left
    not-whole : (k : ℕ) → suc (suc k) < frame_count (length m) → length (take (5 + 6 * k) m ++ take 6 (drop (5 + 6 * k) m)) < length m
    not-whole k l = let n = many in rw (grows k) (simp length-take (omega arith))

    is-first : (h : Line) (t : ℕ) → Underway own unit p (h ▹ cut_frame own unit p m 0 t) (length m) 0 t (take 5 m)
    is-first h t =
        let x = cut-first own unit p m other long most t in
        begins x.kind refl (sym (take-take 5 5 m (omega arith)) ∙ ap (λ (b : List ℕ). take 5 (drop 3 b)) (sym x.data_bytes))

    pub is-underway : {h : Line} {k t : ℕ} → Sent own unit p m h k t → suc k < frame_count (length m) → Underway own unit p h (length m) k t (take (5 + 6 * k) m)
    is-underway (first_sent {h} {t}) l = is-first h t
    is-underway (between s x) l = passes (is-underway s l) (elsewhere x)
    is-underway (next_sent {h} {k} {t} {u} s g) l =
        rw (grows k) at (goes_on (is-underway s (omega arith)) (is-next k t u (omega arith) g) refl (not-whole k l))

    is-complete : {h : Line} {k t u : ℕ} → Sent own unit p m h k t → gap_of u t ≤ 150 → frame_count (length m) ≡ suc (suc k) → Complete own unit p h (cut_frame own unit p m (suc k) u) m
    is-complete {h} {k} {t} {u} s g n =
        let e = many in
        let w : m ≡ take (5 + 6 * k) m ++ take 6 (drop (5 + 6 * k) m) = sym (grows k ∙ take_all (5 + 6 * suc k) m (omega arith)) in
        record {
          L = length m;
          k = k;
          t = t;
          b = take (5 + 6 * k) m;
          c = take 6 (drop (5 + 6 * k) m);
          underway = is-underway s (omega arith);
          last = is-next k t u (omega arith) g;
          whole = rw (← w) (omega arith);
          bytes = w;
        }

  -- ---- at its last frame
  is-single : {h : Line} (t : ℕ) → 1 ≤ length m → length m ≤ 6 → Stands own unit p false h (cut_frame own unit p m 0 t) m
  is-single t a b = let x = cut-single own unit p m other t a b in single x.kind (sym (take-length m) ∙ ap (λ (l : List ℕ). take (length m) (drop 2 l)) (sym x.data_bytes))

  module _ (some : 1 ≤ length m) (most : length m ≤ 255) where
    stands : {h : Line} {f : Frame} → Dec (6 < length m) → SentWhole own unit p m h f → Stands own unit p false h f m
    stands (yes l) (alone e) = absurd (omega (arith, many l most))
    stands (yes l) (last_sent s g e) = train refl (is-complete l most s g e)
    stands (no l) (alone {t = t} e) = is-single t some (omega arith)
    stands (no l) (last_sent s g e) = absurd (omega (arith, frames-one (length m) some (omega arith)))

    pub sent-stands : {h : Line} {f : Frame} → SentWhole own unit p m h f → Stands own unit p false h f m
    sent-stands s = stands (dec_lt 6 (length m)) s

    -- ---- one frame right after the other
    module _ (stamps : ℕ → ℕ) (h : Line) (timely : InTime stamps (frame_count (length m))) where
      abbrev after : ℕ → Line
      after k = sends own unit p m stamps h k

      sends-sent : (k : ℕ) → k < frame_count (length m) → Sent own unit p m (after (suc k)) k (stamps k)
      unfolding sends
      sends-sent zero l = first_sent
      sends-sent (suc k) l = next_sent (sends-sent k (omega arith)) (timely k l)

      whole-at : (k : ℕ) → frame_count (length m) ≡ suc k → SentWhole own unit p m (after k) (cut_frame own unit p m k (stamps k))
      whole-at zero e = alone e
      whole-at (suc k) e = last_sent (sends-sent k (omega arith)) (timely k (omega arith)) e

      -- nothing stands at a frame before the last
      many-frames : {k : ℕ} → suc k < frame_count (length m) → Dec (6 < length m) → 7 ≤ length m
      many-frames l (yes g) = g
      many-frames l (no g) = absurd (omega (arith, frames-one (length m) some (omega arith)))

      quiet : (k : ℕ) → suc k < frame_count (length m) → (q : Position) (functional : Bool) (n : List ℕ) → Stands own unit q functional (after k) (cut_frame own unit p m k (stamps k)) n → ⊥
      unfolding Follows
      quiet zero l = none-stands own unit (Ok (First p (length m))) tt (cut-first own unit p m other (many-frames l (dec_lt _ _)) most (stamps zero)).kind
      quiet (suc k) l =
          let long = many-frames l (dec_lt _ _) in
          let w = is-underway long most (sends-sent k (omega arith)) (omega arith) in
          let n = is-next long most k (stamps k) (stamps (suc k)) (omega arith) (timely k (omega arith)) in
          only-train own unit n.in_order (follows w (taken n (not-whole long most k l))).1

      unread : (r : List Request) → ReadAs own unit h r → (k : ℕ) → k < frame_count (length m) → ReadAs own unit (after k) r
      unfolding sends
      unread r x zero l = x
      unread r x (suc k) l = no_more (unread r x k (omega arith)) (quiet k l)

      size-after : (k : ℕ) → size (after k) ≡ size h + k
      unfolding sends size
      size-after zero = omega arith
      size-after (suc k) = ap suc (size-after k) ∙ (omega arith)

      read_at : (r : List Request) → ReadAs own unit h r → (k : ℕ) → frame_count (length m) ≡ suc k
          → ReadAs own unit (after (suc k)) (record { at = size h + k; from = p; functional = false; bytes = m } ∷ r)
      unfolding sends
      read_at r x k e = rw (size-after k) at (one_more (unread r x k (omega arith)) (sent-stands (whole-at k e)))

      at_least_one : frame_count (length m) ≡ suc (frame_count (length m) - 1)
      at_least_one = go (dec_lt 6 (length m))
        where
          go : Dec (6 < length m) → frame_count (length m) ≡ suc (frame_count (length m) - 1)
          go (yes l) = omega (arith, many l most)
          go (no l) = omega (arith, frames-one (length m) some (omega arith))

      pub sent-whole : SentWhole own unit p m (after (frame_count (length m) - 1)) (cut_frame own unit p m (frame_count (length m) - 1) (stamps (frame_count (length m) - 1)))
      sent-whole = whole-at (frame_count (length m) - 1) at_least_one

      pub read-after : (r : List Request) → ReadAs own unit h r
          → ReadAs own unit (after (frame_count (length m))) (record { at = size h + (frame_count (length m) - 1); from = p; functional = false; bytes = m } ∷ r)
      read-after r x = rw (← at_least_one) at (read_at r x (frame_count (length m) - 1) at_least_one)
