-- What the pieces of a cut sheet are, sentence by sentence and without a way to them (document 02, 2026-12).
use Rattle.std.specs.Prelude.{◌≡◌, true, false, List, [], ◌∷◌, ◌++◌, ℕ}
use Rattle.mending.specs.Pieces.{is_reading, begins, Piece, Kept, Dropped, joined}

-- "front" are the pieces before the one that is spoken of, and "back" those behind it
pub record Mending (s : List ℕ) (ps : List Piece) : Type 0 where
  -- "kept and dropped bytes together are the input in order"
  pub together : joined ps ≡ s
  -- what is kept is "a whole valid 17-byte reading"
  pub kept_whole : (front back : List Piece) (bytes : List ℕ) → ps ≡ front ++ (Kept bytes ∷ back) → is_reading bytes ≡ true
  -- "where a whole valid 17-byte reading begins, it is kept ..; otherwise one byte is dropped": with no dropped byte one begins
  pub dropped_begin_nothing : (front back : List Piece) (before behind : List ℕ) (byte : ℕ) → ps ≡ front ++ (Dropped (before ++ (byte ∷ behind)) ∷ back)
      → begins (byte ∷ (behind ++ joined back)) ≡ false
  -- "each maximal dropped stretch" has a byte, and no other stretch at its end
  pub not_empty : (front back : List Piece) → ps ≡ front ++ (Dropped [] ∷ back) → ⊥
  pub maximal : (front back : List Piece) (one next : List ℕ) → ps ≡ front ++ (Dropped one ∷ Dropped next ∷ back) → ⊥
