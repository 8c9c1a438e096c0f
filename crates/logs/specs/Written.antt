-- A frame written as a line of a log (document 02, 2026-02): `(S.mmm000) can0 ID#DATA` and a newline.
use Rattle.std.specs.Prelude.{List, [], ◌∷◌, ◌++◌, ℕ, ◌+◌, ◌/◌, ◌%◌, ◌^◌, leb, ltb, length, Result, Ok, Err}
use Rattle.identifiers.specs.Bytes.{written}
use Rattle.identifiers.specs.Choice.{pick}
use Rattle.identifiers.specs.Refusals.{refusal, number_of}
use Rattle.text.specs.Digits.{decimal, hex, newline}
use Rattle.identifiers.specs.declared.refusal.Refusal.{Refusal}
use Rattle.logs.specs.declared.answer.LogLineTold.{LogLineTold}

-- bytes in a row, two capital hexadecimal digits each
unfoldable pub hexes : List ℕ → List ℕ
hexes [] = []
hexes (b ∷ bs) = hex b ++ hexes bs

-- milliseconds below 1,000 as six digits of microseconds
unfoldable pub millis : ℕ → List ℕ
millis m = (48 + m / 100) ∷ (48 + m / 10 % 10) ∷ (48 + m % 10) ∷ 48 ∷ 48 ∷ 48 ∷ []

-- the four bytes of a number, high first
unfoldable pub four_bytes : ℕ → List ℕ
four_bytes n = n / 2 ^ 24 ∷ n / 2 ^ 16 % 2 ^ 8 ∷ n / 2 ^ 8 % 2 ^ 8 ∷ n % 2 ^ 8 ∷ []

-- `can0`
abbrev pub can0 : List ℕ
can0 = 99 ∷ 97 ∷ 110 ∷ 48 ∷ []

-- the line of a frame, without its newline
unfoldable pub line_text : ℕ → List ℕ → ℕ → List ℕ
line_text identifier bytes stamp =
    40 ∷ (decimal (stamp / 1000) ++ (46 ∷ (millis (stamp % 1000) ++ (41 ∷ ((32 ∷ []) ++ (can0 ++ (32 ∷ (hexes (four_bytes identifier) ++ (35 ∷ hexes bytes)))))))))

-- "export refuses by 2 and 3"; else how many bytes the line has with its newline, and it stands at the start of the lent text
unfoldable pub line_written : ℕ → List ℕ → ℕ → Result ℕ Refusal
line_written identifier bytes stamp =
    pick (leb (2 ^ 29) identifier) (Err (refusal 2)) (pick (ltb 8 (length bytes)) (Err (refusal 3)) (Ok (length (line_text identifier bytes stamp ++ newline))))

unfoldable pub text_after : ℕ → List ℕ → ℕ → List ℕ → List ℕ
text_after identifier bytes stamp before =
    pick (leb (2 ^ 29) identifier) before (pick (ltb 8 (length bytes)) before (written before 0 (line_text identifier bytes stamp ++ newline)))

-- the answer in numbers
abbrev pub line_told : Result ℕ Refusal → LogLineTold
line_told (Ok count) = record { refusal = 0; length = count }
line_told (Err why) = record { refusal = number_of why; length = 0 }
