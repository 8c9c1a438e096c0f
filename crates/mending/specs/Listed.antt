-- The list of dropped stretches (document 02, 2026-12), as bytes of ASCII.
use Rattle.std.specs.Prelude.{List, [], ◌∷◌, ◌++◌, ℕ, ◌+◌, eqb, length}
use Rattle.identifiers.specs.Choice.{pick}
use Rattle.text.specs.Digits.{decimal, newline}
use Rattle.mending.specs.Pieces.{Piece, Kept, Dropped, pieces}

-- "by offset and length": "dropped LENGTH at OFFSET"
unfoldable pub stretch_line : ℕ → ℕ → List ℕ
stretch_line offset count =
    (100 ∷ 114 ∷ 111 ∷ 112 ∷ 112 ∷ 101 ∷ 100 ∷ 32 ∷ []) ++ decimal count ++ (32 ∷ 97 ∷ 116 ∷ 32 ∷ []) ++ decimal offset ++ newline

-- "lists each maximal dropped stretch": a line for each stretch of pieces that begin at an offset of the input
unfoldable pub lines_from : ℕ → List Piece → List ℕ
lines_from offset [] = []
lines_from offset (Kept bytes ∷ ps) = lines_from (offset + length bytes) ps
lines_from offset (Dropped bytes ∷ ps) = stretch_line offset (length bytes) ++ lines_from (offset + length bytes) ps

unfoldable pub stretch_lines : List ℕ → List ℕ
stretch_lines s = lines_from 0 (pieces s)

-- how many stretches there are
unfoldable pub stretches_in : List Piece → ℕ
stretches_in [] = 0
stretches_in (Kept bytes ∷ ps) = stretches_in ps
stretches_in (Dropped bytes ∷ ps) = 1 + stretches_in ps

-- the line of the bytes dropped so far; nothing where there are none
unfoldable pub stretch_text : ℕ → ℕ → List ℕ
stretch_text offset count = pick (eqb count 0) [] (stretch_line offset count)
