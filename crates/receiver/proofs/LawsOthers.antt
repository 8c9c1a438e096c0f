-- A step leaves the reception of every other vehicle, and its part of the buffer.
use Rattle.std.proofs.Common.{◌≡◌, ℕ, ◌+◌, ◌*◌, ◌<◌, ◌≤◌, ◌≢◌, List, [], ◌∷◌, length, take, drop, sym, ap, ◌∙◌, arith, length-drop, length-take-le, Result}
use native.Mathlib.Decide.{dec_lt}
use Rattle.identifiers.specs.Bytes.{written}
use Rattle.identifiers.proofs.LawsBytes.{written_none}
use Rattle.identifiers.proofs.LawsParts.{part-before, part-behind}
use Rattle.identifiers.specs.declared.refusal.Refusal.{Refusal}
use Rattle.readings.specs.Positions.{place_of}
use Rattle.readings.specs.declared.position.Position.{Position}
use Rattle.readings.proofs.LawsPositions.{places-differ}
use Rattle.receiver.specs.declared.reception.Reception.{Reception}
use Rattle.receiver.specs.declared.outcome.Outcome.{Outcome}
use Rattle.receiver.specs.Receptions.{region_at}
use Rattle.receiver.specs.Steps.{Step, written_by, Gives}
use Rattle.receiver.specs.Nodes.{Node, reception_at, with_reception}
use Rattle.receiver.proofs.LawsNodes.{put_back, reception-other}
use Rattle.receiver.proofs.LawsSteps.{Fitted}

-- position p owns 255 bytes from 256p on: bytes written there leave the part of q
module _ (buffer : List ℕ) (p q at : ℕ) (differ : q ≢ p) where
  part_stays : (bytes : List ℕ) (n : ℕ) → 256 * p ≤ at → at + length bytes ≤ 256 * p + 255 → n ≤ 255 → Dec (q < p)
      → take n (drop (256 * q) (written buffer at bytes)) ≡ take n (drop (256 * q) buffer)
  part_stays bytes n a b l (yes h) = part-before buffer at bytes (256 * q) n (omega arith)
  part_stays bytes n a b l (no h) = part-behind buffer at bytes (256 * q) n (omega arith)

  stays : (bytes : List ℕ) (n : ℕ) → (0 < length bytes → 256 * p ≤ at) → at + length bytes ≤ 256 * p + 255 → n ≤ 255
      → take n (drop (256 * q) (written buffer at bytes)) ≡ take n (drop (256 * q) buffer)
  stays [] n a b l = ap (λ (i : List ℕ). take n (drop (256 * q) i)) (written_none buffer at)
  stays (x ∷ bytes) n a b l = part_stays (x ∷ bytes) n (a (omega arith)) b l (dec_lt q p)

-- of a step of the vehicle at this place, by a frame with these data bytes: the vehicle q keeps what it has
pub record Unmoved (q : Position) (n : Node) (buffer bytes : List ℕ) (place : ℕ) (s : Step) : Type 0 where
  pub reception : reception_at (with_reception n place s.reception) (place_of q) ≡ reception_at n (place_of q)
  pub part : (m : ℕ) → m ≤ 255 → take m (drop (region_at q) (written_by buffer s bytes)) ≡ take m (drop (region_at q) buffer)

module _ (q : Position) (n : Node) (buffer bytes : List ℕ) where
  -- by a step that keeps the reception and the buffer every vehicle does
  pub unmoved-left : (place : ℕ) {s : Step} {o : Result Outcome Refusal} → Gives buffer bytes s (reception_at n place) o buffer → Unmoved q n buffer bytes place s
  unmoved-left place g = record {
    reception = ap (λ (r : Reception). reception_at (with_reception n place r) (place_of q)) g.reception ∙ ap (λ (m : Node). reception_at m (place_of q)) (put_back n place);
    part = λ m l. ap (λ (b : List ℕ). take m (drop (region_at q) b)) g.leaves;
  }

  -- by a step of p every other vehicle does
  pub unmoved-other : (p : Position) (s : Step) → Fitted (place_of p) (length bytes) s → p ≢ q → Unmoved q n buffer bytes (place_of p) s
  unfolding written_by region_at
  unmoved-other p s f d =
      let differ : place_of q ≢ place_of p = λ (e : place_of q ≡ place_of p). d (sym (places-differ q p e)) in
      let reads = f.reads in
      let begin = f.begins in
      let end = f.ends in
      let l : length (take s.count (drop s.start bytes)) ≡ s.count = length-take-le s.count (drop s.start bytes) (simp length-drop (omega arith)) in
      record {
        reception = reception-other n (place_of p) s.reception (place_of q) differ;
        part = λ m h. stays buffer (place_of p) (place_of q) s.at differ (take s.count (drop s.start bytes)) m (λ (z : 0 < length (take s.count (drop s.start bytes))). begin (omega arith)) (omega arith) h;
      }
