-- What the cutter's functions go by: how many frames a message has, where one starts, what its data are, and between which positions.
use Rattle.readings.specs.Positions.{position_at}
use Rattle.identifiers.specs.Refusals.{refusal}
use Rattle.receiver.specs.declared.cutter.Way.{Way}
use Rattle.std.specs.Prelude.{Option, Some, None}
use Rattle.std.proofs.Common.{◌≡◌, ℕ, ◌+◌, ◌-◌, ◌*◌, ◌/◌, ◌<◌, ◌≤◌, Bool, true, false, eqb, ltb, leb, sym, refl, ap, ◌∙◌, arith, ltb-false, le-ltb, ne_eqb, le-leb, Result, Ok, Err, take, drop, take_all, length-drop, List, length}
use borrow.Author.Tests.{eqb-false, lt-leb}
use Rattle.identifiers.specs.Choice.{pick, either}
use Rattle.identifiers.proofs.LawsChoice.{pick_true, pick-false, right-decides, either-false}
use Rattle.identifiers.specs.declared.refusal.Refusal.{Refusal}
use Rattle.readings.specs.declared.position.Position.{Position}
use Rattle.receiver.specs.declared.cutter.FrameCut.{FrameCut}
use Rattle.receiver.specs.Cuts.{frame_count, no_frame, between, ways, way_of}

-- ---- how many frames
-- none for 0 or over 255 bytes, one up to 6, else a first frame and ceiling((L-5)/6) more
pub frames-none : (L : ℕ) → either (eqb L 0) (ltb 255 L) ≡ true → frame_count L ≡ 0
unfolding frame_count
frames-none L h = pick_true _ _ h

in-range : (L : ℕ) → 1 ≤ L → L ≤ 255 → either (eqb L 0) (ltb 255 L) ≡ false
in-range L a b = sym (right-decides (ne_eqb L 0 (λ (e : L ≡ 0). omega arith)) (sym (le-ltb _ _ b)))

pub frames-one : (L : ℕ) → 1 ≤ L → L ≤ 6 → frame_count L ≡ 1
unfolding frame_count
frames-one L a b = pick-false _ _ (in-range L a (omega arith)) ∙ pick_true _ _ (le-leb _ _ b)

pub frames-many : (L : ℕ) → 7 ≤ L → L ≤ 255 → frame_count L ≡ 1 + (L - 5 + 5) / 6
unfolding frame_count
frames-many L a b = pick-false _ _ (in-range L (omega arith) b) ∙ pick-false _ _ (lt-leb _ _ a)

-- a message that has a frame has 1 to 255 bytes
frames-some : (L k : ℕ) → k < frame_count L → (1 ≤ L) × (L ≤ 255) × (k < pick (leb L 6) 1 (1 + (L - 5 + 5) / 6))
unfolding frame_count pick
frames-some L k h = go (either (eqb L 0) (ltb 255 L)) refl h
  where
    go : (t : Bool) → either (eqb L 0) (ltb 255 L) ≡ t → k < pick t 0 (pick (leb L 6) 1 (1 + (L - 5 + 5) / 6)) → (1 ≤ L) × (L ≤ 255) × (k < pick (leb L 6) 1 (1 + (L - 5 + 5) / 6))
    go true e l = absurd (omega arith)
    go false e l =
        let b = either-false _ _ e in
        let some : L ≡ 0 → ⊥ = eqb-false _ _ b.0 in
        (omega arith, ltb-false _ _ b.1, l)

pub frames-range : (L k : ℕ) → k < frame_count L → L ≤ 255
frames-range L k h = (frames-some L k h).1

-- a consecutive frame starts before the message ends
pub frames-start : (L k : ℕ) → k < frame_count L → 6 < L → (5 + 6 * (k - 1) < L) × (k ≤ 42)
frames-start L k h l =
    let f = frames-some L k h in
    let e : k < 1 + (L - 5 + 5) / 6 = rw (pick-false {t = leb L 6} 1 (1 + (L - 5 + 5) / 6) (lt-leb L 6 l)) at f.2 in
    let r : L ≤ 255 = f.1 in
    (omega arith, omega arith)

-- ---- the message bytes from a place on: all of them where they are at most six
pub rest_whole : (m : List ℕ) (start : ℕ) → take (length m - start) (drop start m) ≡ drop start m
rest_whole m start = take_all (length m - start) (drop start m) (rw length-drop (omega arith))

pub rest_short : (m : List ℕ) (start : ℕ) → length m - start ≤ 6 → take (length m - start) (drop start m) ≡ take 6 (drop start m)
rest_short m start h = rest_whole m start ∙ sym (take_all 6 (drop start m) (rw length-drop (omega arith)))

-- ---- between which positions
pub none-else : (t : Bool) (x : Result FrameCut Refusal) → x ≡ no_frame → pick t no_frame x ≡ no_frame
unfolding pick
none-else true x e = refl
none-else false x e = e

pub between_none : (v : Option Position) (frame : Position → Position → Result FrameCut Refusal) → between v None frame ≡ no_frame
unfolding between
between_none None frame = refl
between_none (Some p) frame = refl

pub between_first : (v w : Option Position) (frame : Position → Position → Result FrameCut Refusal) → v ≡ None → between v w frame ≡ no_frame
unfolding between
between_first v w frame e = rw e

pub between-second : (v w : Option Position) (frame : Position → Position → Result FrameCut Refusal) → w ≡ None → between v w frame ≡ no_frame
between-second v w frame e = rw e (between_none v frame)

pub between-both : (v w : Option Position) (frame : Position → Position → Result FrameCut Refusal) (s r : Position) → v ≡ Some s → w ≡ Some r → between v w frame ≡ frame s r
unfolding between
between-both v w frame s r e f = rw (e, f)

-- where there is a way, and where there is none
ways-so : (v w : Option Position) (unit : ℕ) {way : Way} → ways v w unit ≡ Ok way → (way.unit ≡ unit) × ((frame : Position → Position → Result FrameCut Refusal) → between v w frame ≡ frame way.sender way.receiver)
unfolding ways between
ways-so (Some s) (Some r) unit {way} e =
    let f : ◌≡◌ {A = Way} (record { sender = s; receiver = r; unit = unit }) way = cc in
    (ap (λ (w : Way). w.unit) (sym f), λ frame. ap (λ (w : Way). frame w.sender w.receiver) f)
ways-so (Some s) None unit e = cc
ways-so None w unit e = cc

ways-none : (v w : Option Position) (unit : ℕ) {why : Refusal} → ways v w unit ≡ Err why
    → (Err why ≡ no_frame) × ((frame : Position → Position → Result FrameCut Refusal) → between v w frame ≡ no_frame)
unfolding ways between no_frame
ways-none (Some s) (Some r) unit e = cc
ways-none (Some s) None unit e = (cc, λ frame. refl)
ways-none None w unit e = (cc, λ frame. refl)

module _ (from to unit : ℕ) where
  abbrev Frames : Type 0
  Frames = Position → Position → Result FrameCut Refusal

  abbrev framed_by : Frames → Result FrameCut Refusal
  framed_by frame = between (position_at from) (position_at to) frame

  way-so-by : (t : Bool) {way : Way} → pick t (Err (refusal 16)) (ways (position_at from) (position_at to) unit) ≡ Ok way
      → (t ≡ false) × (way.unit ≡ unit) × ((frame : Frames) → framed_by frame ≡ frame way.sender way.receiver)
  unfolding pick
  way-so-by true e = cc
  way-so-by false e = let s = ways-so (position_at from) (position_at to) unit e in (refl, s.0, s.1)

  way-none-by : (t : Bool) {why : Refusal} → pick t (Err (refusal 16)) (ways (position_at from) (position_at to) unit) ≡ Err why
      → (Err why ≡ no_frame) × ((past : Bool) (frame : Frames) → pick (either t past) no_frame (framed_by frame) ≡ no_frame)
  unfolding pick either no_frame
  way-none-by true e = (cc, λ past frame. refl)
  way-none-by false e = let n = ways-none (position_at from) (position_at to) unit e in (n.0, λ past frame. none-else past _ (n.1 frame))

  -- the two positions are other ones, and what is framed goes from the one to the other
  pub way-so : {way : Way} → way_of from to unit ≡ Ok way → (eqb from to ≡ false) × (way.unit ≡ unit) × ((frame : Frames) → framed_by frame ≡ frame way.sender way.receiver)
  unfolding way_of
  way-so e = way-so-by (eqb from to) e

  -- there is no frame, whatever else is tested
  pub way_none : {why : Refusal} → way_of from to unit ≡ Err why
      → (Err why ≡ no_frame) × ((past : Bool) (frame : Frames) → pick (either (eqb from to) past) no_frame (framed_by frame) ≡ no_frame)
  unfolding way_of
  way_none e = way-none-by (eqb from to) e

  pub way_none-alone : {why : Refusal} → way_of from to unit ≡ Err why → (frame : Frames) → Err why ≡ pick (eqb from to) no_frame (framed_by frame)
  unfolding either
  way_none-alone e frame =
      let n = way_none e in
      n.0 ∙ sym (n.1 false frame) ∙ ap (λ (t : Bool). pick t no_frame (framed_by frame)) (either-none (eqb from to))
    where
      either-none : (t : Bool) → either t false ≡ t
      either-none true = refl
      either-none false = refl
