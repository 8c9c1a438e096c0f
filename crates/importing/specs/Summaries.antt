-- What the program `import` prints of a log, as bytes of ASCII.
use Rattle.std.specs.Prelude.{List, [], ◌∷◌, ◌++◌, ℕ, Result, Ok, Err}
use Rattle.identifiers.specs.Refusals.{number_of}
use Rattle.identifiers.specs.declared.refusal.Refusal.{Refusal}
use Rattle.text.specs.Digits.{decimal, newline}
use Rattle.importing.specs.Logs.{LogRead}

-- "frames N" and "passed over M"
unfoldable pub counts_text : ℕ → ℕ → List ℕ
counts_text frames passed =
    (102 ∷ 114 ∷ 97 ∷ 109 ∷ 101 ∷ 115 ∷ 32 ∷ [])
    ++ decimal frames
    ++ (10 ∷ 112 ∷ 97 ∷ 115 ∷ 115 ∷ 101 ∷ 100 ∷ 32 ∷ 111 ∷ 118 ∷ 101 ∷ 114 ∷ 32 ∷ [])
    ++ decimal passed
    ++ newline

-- "refused N at line LINE"
unfoldable pub refused_text : ℕ → ℕ → List ℕ
refused_text number line =
    (114 ∷ 101 ∷ 102 ∷ 117 ∷ 115 ∷ 101 ∷ 100 ∷ 32 ∷ []) ++ decimal number ++ (32 ∷ 97 ∷ 116 ∷ 32 ∷ 108 ∷ 105 ∷ 110 ∷ 101 ∷ 32 ∷ []) ++ decimal line ++ newline

abbrev pub summary_by : Result (Unit {0}) Refusal → ℕ → ℕ → ℕ → List ℕ
summary_by (Ok u) lines frames passed = counts_text frames passed
summary_by (Err why) lines frames passed = refused_text (number_of why) lines

abbrev pub summary_text : LogRead → List ℕ
summary_text r = summary_by r.answer r.lines r.frames r.passed
