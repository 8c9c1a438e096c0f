-- The words in which the theorems are said, besides those of specs/Sequences: where a train begins, what a frame does to it, what is sent.
use Rattle.std.specs.Prelude.{◌≡◌, Bool, true, false, List, [], ◌∷◌, ◌++◌, ◌≢◌, ℕ, zero, suc, ◌+◌, ◌%◌, ◌^◌, ◌≤◌, ◌<◌, eqb, length, take, drop, Result, Ok, Err, Some}
use Rattle.identifiers.specs.Choice.{pick}
use Rattle.identifiers.specs.Refusals.{number_of}
use Rattle.identifiers.specs.declared.refusal.Refusal.{Refusal}
use Rattle.readings.specs.Positions.{place_of, address_of}
use Rattle.readings.specs.declared.position.Position.{Position}
use Rattle.receiver.specs.declared.frame.Judged.{Judged}
use Rattle.receiver.specs.declared.frame.Judged.TheVariants.{Single, First, OverLong, Consecutive}
use Rattle.receiver.specs.Frames.{Frame}
use Rattle.receiver.specs.Steps.{gap_of}
use Rattle.receiver.specs.Cuts.{frame_count, cut_of, on_wire}
use Rattle.trains.specs.Sequences.{Line, start, ◌▹◌, physical_of, due, seen, Elsewhere, Passed, Next, Underway, begins, passes, goes_on, Complete}

-- ---- sequences
-- g goes on from h
pub data Within (h : Line) : Line → Type 0 where
  same : Within h h
  later : {g : Line} {f : Frame} → Within h g → Within h (g ▹ f)

-- the frames of a sequence that have a mark, in order
unfoldable pub only : (Frame → Bool) → Line → Line
only mark start = start
only mark (h ▹ f) = pick (mark f) (only mark h ▹ f) (only mark h)

-- the message bytes of consecutive frames, the latest of which stands first here: at most six each, in the order in which they came
unfoldable pub carried : List Frame → List ℕ
carried [] = []
carried (f ∷ fs) = carried fs ++ take 6 (drop 2 f.bytes)

-- the frame's SA is p's address
abbrev pub from_address : Position → Frame → Bool
from_address p f = eqb (f.identifier % 2 ^ 8) (address_of p)

module _ {own : Position} {unit : ℕ} where
  -- what stands before the train's first frame
  abbrev pub origin : {p : Position} {h : Line} {L k t : ℕ} {b : List ℕ} → Underway own unit p h L k t b → Line
  origin (begins {h = h} e u c) = h
  origin (passes w x) = origin w
  origin (goes_on w n u l) = origin w

  -- its first frame, and its consecutive frames so far, the latest first
  abbrev pub first_frame : {p : Position} {h : Line} {L k t : ℕ} {b : List ℕ} → Underway own unit p h L k t b → Frame
  first_frame (begins {f = f} e u c) = f
  first_frame (passes w x) = first_frame w
  first_frame (goes_on w n u l) = first_frame w

  abbrev pub followers : {p : Position} {h : Line} {L k t : ℕ} {b : List ℕ} → Underway own unit p h L k t b → List Frame
  followers (begins e u c) = []
  followers (passes w x) = followers w
  followers (goes_on {f = f} w n u l) = f ∷ followers w

module _ (own : Position) (unit : ℕ) where
  -- no train of p is under way
  abbrev pub Rests : Position → Line → Type 0
  Rests p h = (L k t : ℕ) (b : List ℕ) → Underway own unit p h L k t b → ⊥

  -- "A physical single frame, a first frame, an over-long one, a wrong number or a late frame ends the open reception, if checks 1 to 9 pass":
  -- the train of which k are taken, the last at t, and b is gathered of L bytes
  pub data Ends (p : Position) (L k t : ℕ) (b : List ℕ) (f : Frame) : Type 0 where
    by_single : {M : ℕ} → seen own unit f ≡ Ok (Single p false M) → Ends p L k t b f
    by_first : {M : ℕ} → seen own unit f ≡ Ok (First p M) → Ends p L k t b f
    by_over_long : seen own unit f ≡ Ok (OverLong p) → Ends p L k t b f
    by_number : {n : ℕ} → seen own unit f ≡ Ok (Consecutive p n) → 2 + due L b ≤ length f.bytes → n ≢ suc k % 16 → Ends p L k t b f
    by_lateness : seen own unit f ≡ Ok (Consecutive p (suc k % 16)) → 2 + due L b ≤ length f.bytes → 150 < gap_of f.stamp t → Ends p L k t b f

  -- the frames that no train of p takes: "those that refusals 1 to 10 name" by themselves, functional frames, and those of other vehicles
  pub data Aside (p : Position) (f : Frame) : Type 0 where
    by_refusal : {why : Refusal} → seen own unit f ≡ Err why → 2 ≤ number_of why → number_of why ≤ 10 → Aside p f
    by_function : {q : Position} {L : ℕ} → seen own unit f ≡ Ok (Single q true L) → Aside p f
    by_vehicle : {q : Position} → physical_of (seen own unit f) ≡ Some q → q ≢ p → Aside p f

  -- what a frame does to that train: one of four
  pub data Fate (p : Position) (L k t : ℕ) (b : List ℕ) (f : Frame) : Type 0 where
    passed_over : Passed own unit p L b f → Fate p L k t b f
    taken : {c : List ℕ} → Next own unit p L k t b f c → length (b ++ c) < L → Fate p L k t b f
    completes : {c : List ℕ} → Next own unit p L k t b f c → L ≤ length (b ++ c) → Fate p L k t b f
    ended : Ends p L k t b f → Fate p L k t b f

  -- what stands of p afterwards: the train as it was; the train one frame on; no train, and this one complete; none but one that begins with this frame
  unfoldable pub Follows : (p : Position) (h : Line) (L k t : ℕ) (b : List ℕ) (f : Frame) → Fate p L k t b f → Type 0
  Follows p h L k t b f (passed_over x) = Underway own unit p (h ▹ f) L k t b × ((m : List ℕ) → Complete own unit p h f m → ⊥)
  Follows p h L k t b f (taken {c} n l) = Underway own unit p (h ▹ f) L (suc k) f.stamp (b ++ c) × ((m : List ℕ) → Complete own unit p h f m → ⊥)
  Follows p h L k t b f (completes {c} n l) = Complete own unit p h f (b ++ c) × Rests p (h ▹ f)
  Follows p h L k t b f (ended e) =
      ((M i s : ℕ) (c : List ℕ) (y : Underway own unit p (h ▹ f) M i s c) → (origin y ≡ h) × (seen own unit f ≡ Ok (First p M))) × ((m : List ℕ) → Complete own unit p h f m → ⊥)

  -- "until L bytes": what a complete train has, by its first frame, its consecutive frames and its bytes
  pub record Whole (p : Position) (h : Line) (f : Frame) (m : List ℕ) (a : Complete own unit p h f m) : Type 0 where
    pub first : seen own unit (first_frame a.underway) ≡ Ok (First p a.L)
    pub least : 7 ≤ a.L
    pub most : a.L ≤ 255
    pub exact : length m ≡ a.L
    pub frames : 2 + length (followers a.underway) ≡ frame_count a.L
    pub bytes : m ≡ take a.L (take 5 (drop 3 (first_frame a.underway).bytes) ++ carried (f ∷ followers a.underway))

module _ (own : Position) (unit : ℕ) (p : Position) (m : List ℕ) where
  -- frame k of the message m, cut for p to send to this address and unit, on the wire at stamp t
  abbrev pub cut_frame : ℕ → ℕ → Frame
  cut_frame k t = on_wire (cut_of m k (place_of p) (place_of own) unit) t

  -- the sequence ends in frames 0 to k of m, each sent in time, the last at t, with no physical frame of p between that checks 2 to 10 let through
  pub data Sent : Line → (k t : ℕ) → Type 0 where
    first_sent : {h : Line} {t : ℕ} → Sent (h ▹ cut_frame 0 t) 0 t
    between : {h : Line} {f : Frame} {k t : ℕ} → Sent h k t → Elsewhere own unit p f → Sent (h ▹ f) k t
    next_sent : {h : Line} {k t u : ℕ} → Sent h k t → gap_of u t ≤ 150 → Sent (h ▹ cut_frame (suc k) u) (suc k) u

  -- all frames of m are sent so, and f is the last
  pub data SentWhole : Line → Frame → Type 0 where
    alone : {h : Line} {t : ℕ} → frame_count (length m) ≡ 1 → SentWhole h (cut_frame 0 t)
    last_sent : {h : Line} {k t u : ℕ} → Sent h k t → gap_of u t ≤ 150 → frame_count (length m) ≡ suc (suc k) → SentWhole h (cut_frame (suc k) u)

  -- h, and then the first k frames of m, one right after the other, at these stamps
  unfoldable pub sends : (ℕ → ℕ) → Line → ℕ → Line
  sends stamps h zero = h
  sends stamps h (suc k) = sends stamps h k ▹ cut_frame k (stamps k)

-- stamps of n frames, each at most 150 ms after the one before
abbrev pub InTime : (ℕ → ℕ) → ℕ → Type 0
InTime stamps n = (k : ℕ) → suc k < n → gap_of (stamps (suc k)) (stamps k) ≤ 150

-- ---- what is cut: a frame that the receiver takes for this, with these data bytes
pub record Carries (own : Position) (unit : ℕ) (f : Frame) (j : Result Judged Refusal) (bytes : List ℕ) : Type 0 where
  pub kind : seen own unit f ≡ j
  pub data_bytes : f.bytes ≡ bytes
