-- The texts that are printed, as bytes of ASCII (document 01, "Count sheet").
use Rattle.std.specs.Prelude.{List, [], ◌∷◌, ◌++◌, ℕ}
use Rattle.text.specs.Digits.{decimal_in, hex, blank, newline}
use Rattle.sheet.specs.Basis.{basis_of}
use Rattle.sheet.specs.declared.basis.Basis.{Basis}
use Rattle.sheet.specs.declared.basis.Basis.TheVariants.{None, Full, Part}
use Rattle.sheet.specs.declared.reading.CountReading.{CountReading}

-- how many bytes the page has: the header, and a line of at most 23 bytes for each of 3,855 readings
abbrev pub page_size : ℕ
page_size = 88701

-- "position mask available count basis" and a newline
abbrev pub header : List ℕ
header =
    112 ∷ 111 ∷ 115 ∷ 105 ∷ 116 ∷ 105 ∷ 111 ∷ 110 ∷ 32 ∷ 109 ∷ 97 ∷ 115 ∷ 107 ∷ 32 ∷ 97 ∷ 118 ∷ 97 ∷ 105 ∷ 108 ∷ 97 ∷ 98 ∷ 108 ∷ 101 ∷ 32 ∷ 99 ∷ 111 ∷ 117 ∷ 110 ∷ 116 ∷ 32 ∷ 98 ∷ 97 ∷ 115 ∷ 105 ∷ 115 ∷ 10 ∷ []

-- "none", "full", "part"
unfoldable pub word_of : Basis → List ℕ
word_of None = 110 ∷ 111 ∷ 110 ∷ 101 ∷ []
word_of Full = 102 ∷ 117 ∷ 108 ∷ 108 ∷ []
word_of Part = 112 ∷ 97 ∷ 114 ∷ 116 ∷ []

-- the numbers of a reading, each with a blank behind it: "columns decimal, hex, hex, decimal"
unfoldable pub numbers_of : CountReading → List ℕ
numbers_of r = (decimal_in 5 r.position ++ blank) ++ (hex r.mask ++ blank) ++ (hex r.available ++ blank) ++ (decimal_in 5 r.count ++ blank)

-- a reading's line: its numbers, and the "word"
unfoldable pub line_of : CountReading → List ℕ
line_of r = numbers_of r ++ word_of (basis_of r.mask r.available) ++ newline

-- "refused N at OFFSET"
unfoldable pub refusal_line : ℕ → ℕ → List ℕ
refusal_line number offset =
    (114 ∷ 101 ∷ 102 ∷ 117 ∷ 115 ∷ 101 ∷ 100 ∷ 32 ∷ []) ++ decimal_in 5 number ++ (32 ∷ 97 ∷ 116 ∷ 32 ∷ []) ++ decimal_in 5 offset ++ newline
