-- The texts of a summary, part by part.
use mathlib.Core.Path.{◌≡◌, refl}
use mathlib.Core.List.{[], ◌∷◌, ◌++◌}
use Prim.Native.Nat.{ℕ}
use Rattle.text.specs.Digits.{decimal, newline}
use Rattle.importing.specs.Summaries.{counts_text, refused_text}

pub counts-text : (frames passed : ℕ)
    → (102 ∷ 114 ∷ 97 ∷ 109 ∷ 101 ∷ 115 ∷ 32 ∷ []) ++ decimal frames ++ (10 ∷ 112 ∷ 97 ∷ 115 ∷ 115 ∷ 101 ∷ 100 ∷ 32 ∷ 111 ∷ 118 ∷ 101 ∷ 114 ∷ 32 ∷ []) ++ decimal passed ++ newline
    ≡ counts_text frames passed
unfolding counts_text
counts-text frames passed = refl

pub refused-text : (number line : ℕ)
    → (114 ∷ 101 ∷ 102 ∷ 117 ∷ 115 ∷ 101 ∷ 100 ∷ 32 ∷ []) ++ decimal number ++ (32 ∷ 97 ∷ 116 ∷ 32 ∷ 108 ∷ 105 ∷ 110 ∷ 101 ∷ 32 ∷ []) ++ decimal line ++ newline ≡ refused_text number line
unfolding refused_text
refused-text number line = refl
