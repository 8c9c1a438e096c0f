-- Demand 3, for frames on the wire and the very definitions that the contracts of `receive`, `shown` and `cut` cite: each statement in a sentence and as a type.
-- That they are not empty is seen in `Examples.unmixed`: two interleaved trains, run by the definitions, both handed out.
use Rattle.std.specs.Prelude.{◌≡◌, Bool, false, List, [], ◌∷◌, ◌++◌, ◌≢◌, ◌↔◌, ℕ, suc, ◌+◌, ◌-◌, ◌*◌, ◌%◌, ◌^◌, ◌≤◌, ◌<◌, length, take, drop, Ok, Err}
use Rattle.identifiers.specs.Refusals.{refusal}
use Rattle.readings.specs.Positions.{place_of, address_of}
use Rattle.readings.specs.declared.position.Position.{Position}
use Rattle.readings.specs.declared.position.Position.TheVariants.{One}
use Rattle.receiver.specs.declared.frame.Judged.TheVariants.{Single, First, OverLong, Consecutive}
use Rattle.receiver.specs.Nodes.{fresh_node, start_of, fresh_of}
use Rattle.receiver.specs.Frames.{Frame}
use Rattle.receiver.specs.Cuts.{frame_count, no_frame, cut_of, Uncut}
use Rattle.trains.specs.Sequences.{Line, ◌▹◌, size, Request, seen, Elsewhere, Underway, Complete, Stands, ReadAs}
use Rattle.trains.specs.Runs.{Held, handed_at, requests}
use Rattle.receiver.specs.Wire.{Addressed, IsSingle, IsFirst, IsOverLong, IsConsecutive}
use Rattle.trains.specs.Terms.{Within, only, from_address, origin, Aside, Fate, Follows, Whole, cut_frame, SentWhole, sends, InTime, Carries}

-- "Start a node fresh": at any own position 1 to 5, with any unit, held with any buffer of 1,536 bytes.
pub record Fresh (own : Position) (unit : ℕ) (x : Held) : Type 0 where
  pub trailer : 1 ≤ place_of own
  pub node : x.node ≡ fresh_node (place_of own) unit
  pub room : length x.buffer ≡ 1536

abbrev pub request_at : Line → Position → Bool → List ℕ → Request
request_at h p functional m = record { at = size h; from = p; functional = functional; bytes = m }

-- The two makers give such nodes.
abbrev pub MakersAreFresh : Type 0
MakersAreFresh = (own : Position) (unit : ℕ) → 1 ≤ place_of own → (fresh_of (place_of own) unit ≡ record { node = fresh_node (place_of own) unit; answer = (Ok tt) }) × (start_of unit ≡ fresh_node (place_of One) unit)

-- ---- of such a node x, with `Fresh own unit x`
module _ (own : Position) (unit : ℕ) (x : Held) where
  -- "The requests it hands out are exactly the single frames and the complete trains standing in that sequence": at a frame f behind h this one request, just where it stands there,
  abbrev pub Exactness : Type 0
  Exactness = (h : Line) (f : Frame) (p : Position) (functional : Bool) (m : List ℕ) → handed_at x h f ≡ request_at h p functional m ∷ [] ↔ Stands own unit p functional h f m

  -- nothing, just where nothing stands,
  abbrev pub NothingElse : Type 0
  NothingElse = (h : Line) (f : Frame) → handed_at x h f ≡ [] ↔ ((p : Position) (functional : Bool) (m : List ℕ) → Stands own unit p functional h f m → ⊥)

  -- and never more than one request a frame.
  abbrev pub AtMostOne : Type 0
  AtMostOne = (h : Line) (f : Frame) → length (handed_at x h f) ≤ 1

  -- So the requests handed out on a sequence are its reading, and no other list is.
  abbrev pub RequestsAreTheReading : Type 0
  RequestsAreTheReading = (h : Line) (r : List Request) → ReadAs own unit h r ↔ requests x h ≡ r

  -- Every request handed out has 1 to 255 bytes and comes from another position: the server never answers it with 17 for its length.
  abbrev pub RequestLength : Type 0
  RequestLength = (h : Line) (f : Frame) (q : Request) → handed_at x h f ≡ q ∷ [] → (1 ≤ length q.bytes) × (length q.bytes ≤ 255) × (place_of q.from ≢ place_of own)

  -- "any message of 1 to 255 bytes that another vehicle cuts by these rules for this address and unit, sent in time with no frame of its own between, is read back unchanged":
  -- the requests grow by just that one, at its last frame, whatever went before,
  abbrev pub RoundTrip : Type 0
  RoundTrip = (p : Position) (m : List ℕ) → place_of p ≢ place_of own → 1 ≤ length m → length m ≤ 255 → (h : Line) (f : Frame) → SentWhole own unit p m h f
      → requests x (h ▹ f) ≡ request_at h p false m ∷ requests x h

  -- and whatever comes after, it stays among them.
  abbrev pub StaysAfterwards : Type 0
  StaysAfterwards = (h g : Line) → Within h g → (more : List Request) × (requests x g ≡ more ++ requests x h)

-- ---- of sequences of frames offered to a node at this own position, with this unit
module _ (own : Position) (unit : ℕ) where
  -- "Each sequence has one such reading": said of the sequence alone.
  abbrev pub OneReading : Type 0
  OneReading = (h : Line) (r s : List Request) → ReadAs own unit h r → ReadAs own unit h s → r ≡ s

  abbrev pub SomeReading : Type 0
  SomeReading = 1 ≤ place_of own → (h : Line) → (r : List Request) × ReadAs own unit h r

  -- "Each comes once, at its last frame": two complete trains that end at one frame are one, with one start and the same bytes;
  abbrev pub OneStart : Type 0
  OneStart = (p : Position) (h : Line) (f : Frame) (m n : List ℕ) (a : Complete own unit p h f m) (b : Complete own unit p h f n) → (m ≡ n) × (origin a.underway ≡ origin b.underway)

  -- and a train under way after a complete one of the same vehicle begins after its last frame, so no first frame has two ends.
  abbrev pub OneEnd : Type 0
  OneEnd = (p : Position) (h g : Line) (f : Frame) (m : List ℕ) → Complete own unit p h f m → Within (h ▹ f) g
      → (L k t : ℕ) (b : List ℕ) (y : Underway own unit p g L k t b) → Within (h ▹ f) (origin y)

  -- "with the bytes its frames carry": a complete train has exactly the L bytes that its first frame names, 7 to 255, in as many frames as the cutter makes of L bytes;
  -- they are the first L of the five of its first frame and the six of each consecutive frame, in order.
  abbrev pub CompleteLength : Type 0
  CompleteLength = (p : Position) (h : Line) (f : Frame) (m : List ℕ) (a : Complete own unit p h f m) → Whole own unit p h f m a

  -- "A train is judged by its own vehicle's frames alone": sequences that agree on the frames whose SA is p's address have the same complete trains of p;
  abbrev pub OwnFramesAlone : Type 0
  OwnFramesAlone = (p : Position) (h g : Line) → only (from_address p) h ≡ only (from_address p) g → (f : Frame) (m : List ℕ) → Complete own unit p h f m → Complete own unit p g f m

  -- so do any that agree on frames among which are all physical frames of p that checks 2 to 10 let through.
  abbrev pub PhysicalFramesAlone : Type 0
  PhysicalFramesAlone = (p : Position) (mark : Frame → Bool) → ((f : Frame) → mark f ≡ false → Elsewhere own unit p f)
      → (h g : Line) → only mark h ≡ only mark g → (f : Frame) (m : List ℕ) → Complete own unit p h f m → Complete own unit p g f m

  -- "no frame of its own between", on the wire: a frame whose SA is not p's address is no physical frame of p.
  abbrev pub NotItsOwn : Type 0
  NotItsOwn = (p : Position) (f : Frame) → f.identifier % 2 ^ 8 ≢ address_of p → Elsewhere own unit p f

  -- Each kind of frame, by its identifier and its bytes.
  abbrev pub KindsOnTheWire : Type 0
  KindsOnTheWire = (p : Position) (f : Frame)
      → ((functional : Bool) (L : ℕ) → seen own unit f ≡ Ok (Single p functional L) ↔ (Addressed own unit f.identifier f.bytes p functional × IsSingle f.bytes L))
      × ((L : ℕ) → seen own unit f ≡ Ok (First p L) ↔ (Addressed own unit f.identifier f.bytes p false × IsFirst f.bytes L))
      × (seen own unit f ≡ Ok (OverLong p) ↔ (Addressed own unit f.identifier f.bytes p false × IsOverLong f.bytes))
      × ((n : ℕ) → seen own unit f ≡ Ok (Consecutive p n) ↔ (Addressed own unit f.identifier f.bytes p false × IsConsecutive f.bytes n))

  -- No train of p takes a frame that is no physical frame of p: it is named by one of refusals 2 to 10, or functional, or another vehicle's.
  abbrev pub WhatIsElsewhere : Type 0
  WhatIsElsewhere = (p : Position) (f : Frame) → Elsewhere own unit p f ↔ Aside own unit p f

  -- Whatever the next frame is, a train under way is passed over, taken on, completed or ended by it,
  -- ended by "a physical single frame, a first frame, an over-long one, a wrong number or a late frame .. if checks 1 to 9 pass";
  abbrev pub FourFates : Type 0
  FourFates = (p : Position) (L k t : ℕ) (b : List ℕ) (f : Frame) → Fate own unit p L k t b f

  -- and in each case it is known what stands of p afterwards.
  abbrev pub WhatFollows : Type 0
  WhatFollows = (p : Position) (h : Line) (L k t : ℕ) (b : List ℕ) (f : Frame) → Underway own unit p h L k t b → (x : Fate own unit p L k t b f) → Follows own unit p h L k t b f x

  -- For a reader: any history, then the cutter's frames, one after the other in time, reads as the history's reading and that message.
  abbrev pub ReadBack : Type 0
  ReadBack = (p : Position) (m : List ℕ) → place_of p ≢ place_of own → 1 ≤ length m → length m ≤ 255 → (stamps : ℕ → ℕ) → InTime stamps (frame_count (length m)) → (h : Line) (r : List Request) → ReadAs own unit h r
      → ReadAs own unit (sends own unit p m stamps h (frame_count (length m))) (record { at = size h + (frame_count (length m) - 1); from = p; functional = false; bytes = m } ∷ r)

  -- Such a sequence exists for every message, after any history: sent back to back, all at stamp 0.
  abbrev pub Sendable : Type 0
  Sendable = (p : Position) (m : List ℕ) → place_of p ≢ place_of own → 1 ≤ length m → length m ≤ 255 → (h : Line)
      → SentWhole own unit p m (sends own unit p m (λ k. 0) h (frame_count (length m) - 1)) (cut_frame own unit p m (frame_count (length m) - 1) 0)

  -- What the cutter writes is taken apart again, field by field: a single frame, a first frame with L, and consecutive frames with their numbers, each with its bytes and no padding.
  abbrev pub CutTakenApart : Type 0
  CutTakenApart = (p : Position) (m : List ℕ) → place_of p ≢ place_of own → (t : ℕ)
      → (1 ≤ length m → length m ≤ 6 → Carries own unit (cut_frame own unit p m 0 t) (Ok (Single p false (length m))) (unit ∷ length m ∷ m))
      × (7 ≤ length m → length m ≤ 255 → Carries own unit (cut_frame own unit p m 0 t) (Ok (First p (length m))) (unit ∷ 0x10 ∷ length m ∷ take 5 m))
      × (7 ≤ length m → length m ≤ 255 → (k : ℕ) → suc k < frame_count (length m)
      → Carries own unit (cut_frame own unit p m (suc k) t) (Ok (Consecutive p (suc k % 16))) (unit ∷ (0x20 + suc k % 16) ∷ take 6 (drop (5 + 6 * k) m)))

-- The cutter refuses, with 16, just where document 01 says, and then gives no frame.
abbrev pub CutterRefuses : Type 0
CutterRefuses = (m : List ℕ) (k from to unit : ℕ) → (cut_of m k from to unit ≡ Err (refusal 16) ↔ Uncut m k from to) × (Uncut m k from to → cut_of m k from to unit ≡ no_frame)
