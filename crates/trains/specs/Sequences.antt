-- What stands in a sequence of frames, by the sequence alone: no state, no step, no buffer (document 01, "A complete train").
use Rattle.std.specs.Prelude.{◌≡◌, Bool, true, false, List, [], ◌∷◌, ◌++◌, ℕ, suc, ◌+◌, ◌-◌, ◌%◌, ◌≤◌, ◌<◌, min, length, take, drop, Result, Ok, Err, Option, Some, None}
use Rattle.identifiers.specs.declared.refusal.Refusal.{Refusal}
use Rattle.readings.specs.declared.position.Position.{Position}
use Rattle.receiver.specs.declared.frame.Judged.{Judged}
use Rattle.receiver.specs.declared.frame.Judged.TheVariants.{Single, First, OverLong, Consecutive}
use Rattle.receiver.specs.Frames.{Frame, judged_of}
use Rattle.receiver.specs.Steps.{gap_of}

-- a sequence of frames, the latest at the right
infixl 20 ◌▹◌
pub data Line : Type 0 where
  start : Line
  ◌▹◌ : (h : Line) (f : Frame) → Line

unfoldable pub size : Line → ℕ
size start = 0
size (h ▹ f) = suc (size h)

-- the vehicle whose physical frame it is: none where one of refusals 2 to 10 names the frame by itself, and none where it is functional
unfoldable pub physical_of : Result Judged Refusal → Option Position
physical_of (Err why) = None
physical_of (Ok (Single from true L)) = None
physical_of (Ok (Single from false L)) = Some from
physical_of (Ok (First from L)) = Some from
physical_of (Ok (OverLong from)) = Some from
physical_of (Ok (Consecutive from number)) = Some from

-- "m = min(6, bytes left)": what the next consecutive frame carries where b is gathered of L bytes
unfoldable pub due : ℕ → List ℕ → ℕ
due L b = min 6 (L - length b)

-- a request: the place of its last frame in the sequence, its vehicle, functional or not, its bytes
pub record Request : Type 0 where
  pub at : ℕ
  pub from : Position
  pub functional : Bool
  pub bytes : List ℕ

-- for a node at this own position, with this unit
module _ (own : Position) (unit : ℕ) where
  abbrev pub seen : Frame → Result Judged Refusal
  seen f = judged_of own unit f.identifier f.bytes

  -- the frame is no physical frame of p that checks 2 to 10 let through
  abbrev pub Elsewhere : Position → Frame → Type 0
  Elsewhere p f = physical_of (seen f) ≡ Some p → ⊥

  -- "passing over those that refusals 1 to 10 name": besides those elsewhere, 9 names a consecutive frame with fewer bytes than it owes,
  -- where "the bytes left are counted in the train itself"
  pub data Passed (p : Position) (L : ℕ) (b : List ℕ) (f : Frame) : Type 0 where
    elsewhere : Elsewhere p f → Passed p L b f
    too_short : {n : ℕ} → seen f ≡ Ok (Consecutive p n) → length f.bytes < 2 + due L b → Passed p L b f

  -- "each consecutive frame in order and in time": the one that goes on with a train of which k are taken, the last at t, and b is gathered
  pub record Next (p : Position) (L k t : ℕ) (b : List ℕ) (f : Frame) (c : List ℕ) : Type 0 where
    pub in_order : seen f ≡ Ok (Consecutive p (suc k % 16))
    pub in_time : gap_of f.stamp t ≤ 150
    pub long_enough : 2 + due L b ≤ length f.bytes
    pub bytes : c ≡ take (due L b) (drop 2 f.bytes)

  -- an unfinished train of p stands at the end of the sequence: L bytes in all, k consecutive frames so far, the last stamp t, the bytes b so far
  pub data Underway (p : Position) : Line → (L k t : ℕ) → List ℕ → Type 0 where
    begins : {h : Line} {f : Frame} {L t : ℕ} {b : List ℕ} → seen f ≡ Ok (First p L) → t ≡ f.stamp → b ≡ take 5 (drop 3 f.bytes) → Underway p (h ▹ f) L 0 t b
    passes : {h : Line} {f : Frame} {L k t : ℕ} {b : List ℕ} → Underway p h L k t b → Passed p L b f → Underway p (h ▹ f) L k t b
    goes_on : {h : Line} {f : Frame} {L k t u : ℕ} {b c : List ℕ} → Underway p h L k t b → Next p L k t b f c → u ≡ f.stamp → length (b ++ c) < L
        → Underway p (h ▹ f) L (suc k) u (b ++ c)

  -- a complete train of p with the bytes m ends with the frame f behind h: ".. until L bytes"
  pub record Complete (p : Position) (h : Line) (f : Frame) (m : List ℕ) : Type 0 where
    pub L : ℕ
    pub k : ℕ
    pub t : ℕ
    pub b : List ℕ
    pub c : List ℕ
    pub underway : Underway p h L k t b
    pub last : Next p L k t b f c
    pub whole : L ≤ length (b ++ c)
    pub bytes : m ≡ b ++ c

  -- a request of p with the bytes m stands in the sequence h ▹ f, and f is its last frame: a single frame, physical or functional, or a complete train
  pub data Stands (p : Position) (functional : Bool) (h : Line) (f : Frame) (m : List ℕ) : Type 0 where
    single : {L : ℕ} → seen f ≡ Ok (Single p functional L) → m ≡ take L (drop 2 f.bytes) → Stands p functional h f m
    train : functional ≡ false → Complete p h f m → Stands p functional h f m

  -- r are the requests that stand in the sequence, the latest first, each with the place of its last frame
  pub data ReadAs : Line → List Request → Type 0 where
    none_yet : ReadAs start []
    no_more : {h : Line} {f : Frame} {r : List Request} → ReadAs h r → ((p : Position) (functional : Bool) (m : List ℕ) → Stands p functional h f m → ⊥) → ReadAs (h ▹ f) r
    one_more : {h : Line} {f : Frame} {r : List Request} {p : Position} {functional : Bool} {m : List ℕ} → ReadAs h r → Stands p functional h f m
        → ReadAs (h ▹ f) (record { at = size h; from = p; functional = functional; bytes = m } ∷ r)
