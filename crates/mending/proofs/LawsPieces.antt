-- What the pieces of a walk are, one behind the other: the form in which the theorems are shown, and that it is what `Mending` says.
use mathlib.Core.Path.{◌≡◌, refl, ap}
use mathlib.Core.Bool.{true, false}
use mathlib.Core.List.{List, [], ◌∷◌, ◌++◌}
use Prim.Native.Nat.{ℕ, suc}
use native.Mathlib.Omega.{arith}
use lib.ListN.{length}
use Rattle.mending.specs.Pieces.{is_reading, begins, Piece, Kept, Dropped, joined}
use Rattle.mending.specs.Mending.{Mending}

-- with no byte of a stretch a reading begins, where `back` stands behind it
pub data Quiet : List ℕ → List ℕ → Type 0 where
  silent : {back : List ℕ} → Quiet [] back
  more : {b : ℕ} {bytes back : List ℕ} → begins (b ∷ (bytes ++ back)) ≡ false → Quiet bytes back → Quiet (b ∷ bytes) back

-- no stretch comes first
abbrev pub Closed : List Piece → Type 0
Closed ps = (bytes : List ℕ) (back : List Piece) → ps ≡ Dropped bytes ∷ back → ⊥

pub data Stand : List Piece → Type 0 where
  none : Stand []
  kept : {bytes : List ℕ} {ps : List Piece} → is_reading bytes ≡ true → Stand ps → Stand (Kept bytes ∷ ps)
  dropped : {bytes : List ℕ} {ps : List Piece} → (bytes ≡ [] → ⊥) → Quiet bytes (joined ps) → Closed ps → Stand ps → Stand (Dropped bytes ∷ ps)

-- ---- the two forms
quiet-behind : (before : List ℕ) {bytes back : List ℕ} → Quiet (before ++ bytes) back → Quiet bytes back
quiet-behind [] q = q
quiet-behind (b ∷ before) (more e q) = quiet-behind before q

quiet-first : {b : ℕ} {bytes back : List ℕ} → Quiet (b ∷ bytes) back → begins (b ∷ (bytes ++ back)) ≡ false
quiet-first (more e q) = e

quiet_each : (bytes back : List ℕ) → ((before behind : List ℕ) (byte : ℕ) → bytes ≡ before ++ (byte ∷ behind) → begins (byte ∷ (behind ++ back)) ≡ false) → Quiet bytes back
quiet_each [] back h = silent
quiet_each (b ∷ bytes) back h = more (h [] bytes b refl) (quiet_each bytes back (λ before behind byte e. h (b ∷ before) behind byte (ap (λ (x : List ℕ). b ∷ x) e)))

different : (a b : List ℕ) → Kept a ≡ Dropped b → ⊥
different a b e = let z : ◌≡◌ {A = ℕ} 0 1 = cc in omega arith

pub kept-closed : (bytes : List ℕ) (ps : List Piece) → Closed (Kept bytes ∷ ps)
kept-closed bytes ps other back e = let z : ◌≡◌ {A = Piece} (Kept bytes) (Dropped other) = cc in different bytes other z

pub none-closed : Closed []
none-closed bytes back e = let z : ◌≡◌ {A = ℕ} 0 (suc (length back)) = ap length e in omega arith

stand-behind : (front : List Piece) {ps : List Piece} → Stand (front ++ ps) → Stand ps
stand-behind [] h = h
stand-behind (Kept bytes ∷ front) (kept r h) = stand-behind front h
stand-behind (Dropped bytes ∷ front) (dropped n q c h) = stand-behind front h

first-kept : {bytes : List ℕ} {ps : List Piece} → Stand (Kept bytes ∷ ps) → is_reading bytes ≡ true
first-kept (kept r h) = r

first_some : {bytes : List ℕ} {ps : List Piece} → Stand (Dropped bytes ∷ ps) → bytes ≡ [] → ⊥
first_some (dropped n q c h) = n

first-quiet : {bytes : List ℕ} {ps : List Piece} → Stand (Dropped bytes ∷ ps) → Quiet bytes (joined ps)
first-quiet (dropped n q c h) = q

first-closed : {bytes : List ℕ} {ps : List Piece} → Stand (Dropped bytes ∷ ps) → Closed ps
first-closed (dropped n q c h) = c

pub stand-mending : (s : List ℕ) (ps : List Piece) → joined ps ≡ s → Stand ps → Mending s ps
stand-mending s ps e h =
    record {
      together = e;
      kept_whole = λ front back bytes (p : ps ≡ front ++ (Kept bytes ∷ back)). first-kept (stand-behind front (rw p at h));
      dropped_begin_nothing = λ front back before behind byte (p : ps ≡ front ++ (Dropped (before ++ (byte ∷ behind)) ∷ back)).
          quiet-first (quiet-behind before (first-quiet (stand-behind front (rw p at h))));
      not_empty = λ front back (p : ps ≡ front ++ (Dropped [] ∷ back)). first_some (stand-behind front (rw p at h)) refl;
      maximal = λ front back one next (p : ps ≡ front ++ (Dropped one ∷ Dropped next ∷ back)). first-closed (stand-behind front (rw p at h)) next back refl;
    }

mending-behind : (p : Piece) (ps : List Piece) (s : List ℕ) → Mending s (p ∷ ps) → Mending (joined ps) ps
mending-behind p ps s m =
    record {
      together = refl;
      kept_whole = λ front back bytes e. m.kept_whole (p ∷ front) back bytes (ap (λ (x : List Piece). p ∷ x) e);
      dropped_begin_nothing = λ front back before behind byte e. m.dropped_begin_nothing (p ∷ front) back before behind byte (ap (λ (x : List Piece). p ∷ x) e);
      not_empty = λ front back e. m.not_empty (p ∷ front) back (ap (λ (x : List Piece). p ∷ x) e);
      maximal = λ front back one next e. m.maximal (p ∷ front) back one next (ap (λ (x : List Piece). p ∷ x) e);
    }

pub mending-stand : (ps : List Piece) (s : List ℕ) → Mending s ps → Stand ps
mending-stand [] s m = none
mending-stand (Kept bytes ∷ ps) s m = kept (m.kept_whole [] ps bytes refl) (mending-stand ps (joined ps) (mending-behind (Kept bytes) ps s m))
mending-stand (Dropped bytes ∷ ps) s m =
    dropped (λ (e : bytes ≡ []). m.not_empty [] ps (ap (λ (x : List ℕ). Dropped x ∷ ps) e))
    (quiet_each bytes (joined ps) (λ before behind byte (e : bytes ≡ before ++ (byte ∷ behind)). m.dropped_begin_nothing [] ps before behind byte (ap (λ (x : List ℕ). Dropped x ∷ ps) e)))
    (λ other back (e : ps ≡ Dropped other ∷ back). m.maximal [] back bytes other (ap (λ (x : List Piece). Dropped bytes ∷ x) e))
    (mending-stand ps (joined ps) (mending-behind (Dropped bytes) ps s m))
