-- The bytes of a train: a complete one has exactly L, and they are those that its frames carry, in order.
use Rattle.std.proofs.Common.{Ok}
use mathlib.Core.Path.{◌≡◌, refl, sym, ap, ◌∙◌}
use mathlib.Core.Bool.{Bool}
use mathlib.Core.List.{List, ◌∷◌, ◌++◌, append-nil, append_assoc}
use mathlib.Core.Logic.{◌≢◌}
use Prim.Native.Nat.{ℕ, suc, ◌+◌, ◌-◌, ◌≤◌, ◌<◌, min}
use native.Mathlib.Omega.{arith}
use lib.ListN.{length, take, drop, length-drop}
use lib.Seq.{length-take-le, take-take, take-append-add}
use Rattle.readings.specs.Positions.{place_of}
use Rattle.readings.specs.declared.position.Position.{Position}
use Rattle.receiver.specs.declared.frame.Judged.TheVariants.{First}
use Rattle.receiver.specs.Cuts.{frame_count}
use Rattle.receiver.specs.Frames.{Frame}
use Rattle.trains.specs.Sequences.{Line, due, seen, Next, Underway, begins, passes, goes_on, Complete, Stands, single, train}
use Rattle.trains.specs.Terms.{carried, first_frame, followers, Whole}
use Rattle.receiver.proofs.LawsFrames.{fair}
use Rattle.receiver.proofs.LawsPieces.{frames-many}
use Rattle.trains.proofs.LawsSequences.{grown, bounded}

module _ {own : Position} {unit : ℕ} {p : Position} where
  -- before its last frame a train takes six bytes of each
  six-due : {L k t : ℕ} {b c : List ℕ} {f : Frame} → Next own unit p L k t b f c → length (b ++ c) < L → due L b ≡ 6
  unfolding due
  six-due {L = L} {b = b} {c = c} n l = let g : length (b ++ c) ≡ length b + min 6 (L - length b) = grown n in omega arith

  pub gathered-bytes : {h : Line} {L k t : ℕ} {b : List ℕ} (w : Underway own unit p h L k t b) → b ≡ take 5 (drop 3 (first_frame w).bytes) ++ carried (followers w)
  unfolding carried
  gathered-bytes (begins {f = f} e u c) = c ∙ sym (append-nil (take 5 (drop 3 f.bytes)))
  gathered-bytes (passes w x) = gathered-bytes w
  gathered-bytes (goes_on {f = f} {L = L} {b = b} {c = c} w n u l) =
      ap (λ (a : List ℕ). b ++ a) (n.bytes ∙ ap (λ (i : ℕ). take i (drop 2 f.bytes)) (six-due n l))
      ∙ ap (λ (a : List ℕ). a ++ take 6 (drop 2 f.bytes)) (gathered-bytes w)
      ∙ append_assoc (take 5 (drop 3 (first_frame w).bytes)) (carried (followers w)) (take 6 (drop 2 f.bytes))

  first-names : {h : Line} {L k t : ℕ} {b : List ℕ} (w : Underway own unit p h L k t b) → seen own unit (first_frame w) ≡ Ok (First p L)
  first-names (begins e u c) = e
  first-names (passes w x) = first-names w
  first-names (goes_on w n u l) = first-names w

  follower-count : {h : Line} {L k t : ℕ} {b : List ℕ} (w : Underway own unit p h L k t b) → length (followers w) ≡ k
  follower-count (begins e u c) = refl
  follower-count (passes w x) = follower-count w
  follower-count (goes_on w n u l) = ap suc (follower-count w)

  module _ {h : Line} {f : Frame} {m : List ℕ} (x : Complete own unit p h f m) where
    left : due x.L x.b ≡ x.L - length x.b
    unfolding due
    left =
        let g : length (x.b ++ x.c) ≡ length x.b + min 6 (x.L - length x.b) = grown x.last in
        let w = x.whole in
        let i = bounded x.underway in
        omega arith

    whole_length : length m ≡ x.L
    whole_length =
        let i = bounded x.underway in
        let e = left in
        ap length x.bytes ∙ grown x.last ∙ (omega arith)

    whole-frames : 2 + length (followers x.underway) ≡ frame_count x.L
    unfolding due
    whole-frames =
        let i = bounded x.underway in
        let e = left in
        let n = frames-many x.L i.low i.high in
        let k = follower-count x.underway in
        omega arith

    whole-bytes : m ≡ take x.L (take 5 (drop 3 (first_frame x.underway).bytes) ++ carried (f ∷ followers x.underway))
    unfolding carried due
    whole-bytes =
        let i = bounded x.underway in
        let e = left in
        let rest = x.L - length x.b in
        let whole : length x.b + rest ≡ x.L = omega arith in
        let six : rest ≤ 6 = omega arith in
        x.bytes
        ∙ ap (λ (a : List ℕ). x.b ++ a) (x.last.bytes ∙ ap (λ (j : ℕ). take j (drop 2 f.bytes)) e ∙ sym (take-take rest 6 (drop 2 f.bytes) six))
        ∙ sym (take-append-add x.b (take 6 (drop 2 f.bytes)) rest)
        ∙ ap (λ (j : ℕ). take j (x.b ++ take 6 (drop 2 f.bytes))) whole
        ∙ ap (λ (a : List ℕ). take x.L (a ++ take 6 (drop 2 f.bytes))) (gathered-bytes x.underway)
        ∙ ap (take x.L) (append_assoc (take 5 (drop 3 (first_frame x.underway).bytes)) (carried (followers x.underway)) (take 6 (drop 2 f.bytes)))

    pub whole : Whole own unit p h f m x
    whole =
        let i = bounded x.underway in
        record { first = first-names x.underway; least = i.low; most = i.high; exact = whole_length; frames = whole-frames; bytes = whole-bytes }

  -- a request has 1 to 255 bytes and comes from another position
  pub request-bounds : {functional : Bool} {h : Line} {f : Frame} {m : List ℕ} → Stands own unit p functional h f m → (1 ≤ length m) × (length m ≤ 255) × (place_of p ≢ place_of own)
  request-bounds {f = f} (single {L} e a) =
      let s = fair own unit f.identifier f.bytes _ e in
      let l : length (take L (drop 2 f.bytes)) ≡ L = length-take-le L (drop 2 f.bytes) (simp length-drop (omega arith)) in
      let n = ap length a in
      let k = s.1 in
      (omega arith, omega arith, s.0.other)
  request-bounds {f = f} (train i x) =
      let s = fair own unit f.identifier f.bytes _ x.last.in_order in
      let l = whole x in
      (omega arith, omega arith, s.0.other)
