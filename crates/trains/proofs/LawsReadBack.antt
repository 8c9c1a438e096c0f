-- What the cutter writes the receiver's own reading of a frame takes apart again: single, first and consecutive, with the right number and bytes.
use Rattle.std.proofs.Common.{Result, Ok}
use mathlib.Core.Path.{◌≡◌, refl, ap, ◌∙◌}
use mathlib.Core.Bool.{false}
use mathlib.Core.List.{List, ◌∷◌}
use mathlib.Core.Logic.{◌≢◌}
use Prim.Native.Nat.{ℕ, suc, ◌+◌, ◌*◌, ◌%◌, ◌≤◌, ◌<◌}
use native.Mathlib.Omega.{arith}
use lib.ListN.{length, take, drop, length-take}
use lib.Seq.{length-take-le}
use Rattle.identifiers.specs.declared.refusal.Refusal.{Refusal}
use Rattle.readings.specs.Positions.{place_of}
use Rattle.readings.specs.declared.position.Position.{Position}
use Rattle.receiver.specs.declared.frame.Judged.{Judged}
use Rattle.receiver.specs.declared.frame.Judged.TheVariants.{Single, First, Consecutive}
use Rattle.receiver.specs.Frames.{Frame, judged_of}
use Rattle.receiver.specs.Cuts.{frame_count}
use Rattle.receiver.proofs.LawsKinds.{single-is, first-is, consecutive-is}
use Rattle.receiver.proofs.LawsOnWire.{identifier_to, single-wire, first-wire, consecutive-wire, cut-addressed}
use Rattle.trains.specs.Sequences.{seen}
use Rattle.trains.specs.Terms.{Carries, cut_frame}

module _ (own : Position) (unit : ℕ) (p : Position) (m : List ℕ) (other : place_of p ≢ place_of own) where
  carries : (k t : ℕ) (rest : List ℕ) (j : Result Judged Refusal) → cut_frame own unit p m k t ≡ record { identifier = identifier_to p own; bytes = unit ∷ rest; stamp = t }
      → judged_of own unit (identifier_to p own) (unit ∷ rest) ≡ j → Carries own unit (cut_frame own unit p m k t) j (unit ∷ rest)
  carries k t rest j w e = record { kind = ap (λ (f : Frame). seen own unit f) w ∙ e; data_bytes = ap (λ (f : Frame). f.bytes) w }

  pub cut-single : (t : ℕ) → 1 ≤ length m → length m ≤ 6 → Carries own unit (cut_frame own unit p m 0 t) (Ok (Single p false (length m))) (unit ∷ length m ∷ m)
  cut-single t a b =
      carries 0 t _ _ (single-wire p own unit m other t a b)
      ((single-is own unit (identifier_to p own) (unit ∷ length m ∷ m) p false (length m)).1
      (cut-addressed own p unit (length m ∷ m) other (omega arith), record { high = omega arith; low = omega arith; least = a; most = b; room = omega arith }))

  module _ (long : 7 ≤ length m) (most : length m ≤ 255) where
    pub cut-first : (t : ℕ) → Carries own unit (cut_frame own unit p m 0 t) (Ok (First p (length m))) (unit ∷ 0x10 ∷ length m ∷ take 5 m)
    cut-first t =
        let l : length (take 5 m) ≡ 5 = length-take-le 5 m (omega arith) in
        carries 0 t _ _ (first-wire p own unit m other long most t)
        ((first-is own unit (identifier_to p own) (unit ∷ 0x10 ∷ length m ∷ take 5 m) p (length m)).1
        (cut-addressed own p unit (0x10 ∷ length m ∷ take 5 m) other (omega arith), record { high = refl; room = omega arith; named = omega arith; least = long; most = most }))

    pub cut-consecutive : (k t : ℕ) → suc k < frame_count (length m)
        → Carries own unit (cut_frame own unit p m (suc k) t) (Ok (Consecutive p (suc k % 16))) (unit ∷ (0x20 + suc k % 16) ∷ take 6 (drop (5 + 6 * k) m))
    cut-consecutive k t h =
        let c : List ℕ = take 6 (drop (5 + 6 * k) m) in
        let l : length c ≤ 6 = simp length-take (omega arith) in
        carries (suc k) t _ _ (consecutive-wire p own unit m other long most k t h)
        ((consecutive-is own unit (identifier_to p own) (unit ∷ (0x20 + suc k % 16) ∷ c) p (suc k % 16)).1
        (cut-addressed own p unit ((0x20 + suc k % 16) ∷ c) other (omega arith), record { high = omega arith; low = omega arith; room = omega arith }))
