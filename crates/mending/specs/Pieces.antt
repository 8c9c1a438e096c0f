-- The walk through a cut sheet (document 02, 2026-12), and the pieces that it leaves: readings kept, stretches dropped.
use Rattle.std.specs.Prelude.{Bool, true, false, Ok, Err, List, [], ◌∷◌, ◌++◌, ℕ, zero, suc, eqb, length, take}
use Rattle.identifiers.specs.Choice.{pick, both}
use Rattle.sheet.specs.Fields.{SheetRead}
use Rattle.sheet.specs.Sheets.{sheet_read}

unfoldable pub accepts : SheetRead → Bool
accepts (Ok _) = true
accepts (Err _) = false

-- "a whole valid 17-byte reading": seventeen bytes that the count sheet accepts
unfoldable pub is_reading : List ℕ → Bool
is_reading bytes = both (eqb (length bytes) 17) (accepts (sheet_read bytes))

-- "where a whole valid 17-byte reading begins"
unfoldable pub begins : List ℕ → Bool
begins s = is_reading (take 17 s)

pub data Piece : Type 0 where
  Kept : List ℕ → Piece
  Dropped : List ℕ → Piece

-- the stretch that is open ends; it is none where no byte was dropped
unfoldable pub ended : List ℕ → List Piece
ended [] = []
ended (b ∷ dropped) = Dropped (b ∷ dropped) ∷ []

-- "where a whole valid 17-byte reading begins, it is kept and the walk goes on behind it; otherwise one byte is dropped": how many
-- bytes the walk has still to pass of a reading that was kept, the bytes dropped since then, and what lies ahead
unfoldable pub walk : ℕ → List ℕ → List ℕ → List Piece
walk n dropped [] = ended dropped
walk (suc n) dropped (b ∷ s) = walk n dropped s
walk zero dropped (b ∷ s) =
    pick (begins (b ∷ s)) (ended dropped ++ (Kept (take 17 (b ∷ s)) ∷ walk 16 [] s))
    (walk zero (dropped ++ (b ∷ [])) s)

-- "The tool walks from the start"
unfoldable pub pieces : List ℕ → List Piece
pieces s = walk 0 [] s

abbrev pub bytes_of : Piece → List ℕ
bytes_of (Kept bytes) = bytes
bytes_of (Dropped bytes) = bytes

-- the bytes of pieces, in order
unfoldable pub joined : List Piece → List ℕ
joined [] = []
joined (p ∷ ps) = bytes_of p ++ joined ps

-- "the kept readings unchanged"
unfoldable pub kept_of : List Piece → List ℕ
kept_of [] = []
kept_of (Kept bytes ∷ ps) = bytes ++ kept_of ps
kept_of (Dropped bytes ∷ ps) = kept_of ps

unfoldable pub mended : List ℕ → List ℕ
mended s = kept_of (pieces s)
