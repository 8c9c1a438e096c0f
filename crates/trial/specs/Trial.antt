-- The line that trial prints, and what its words keep.
use Rattle.std.specs.Prelude.{List, ◌++◌, ℕ, ◌≤◌}
use Rattle.text.specs.Digits.{decimal, hex, blank, newline}

-- the mask in hexadecimal, OWN, the bytes and the lines in decimal
unfoldable pub trial_text : ℕ → ℕ → ℕ → ℕ → List ℕ
trial_text mask own bytes lines = hex mask ++ (blank ++ decimal own) ++ (blank ++ decimal bytes) ++ (blank ++ decimal lines) ++ newline

-- OWN is 1 to 5
abbrev pub own_is_trailer : ℕ → Type 0
own_is_trailer own = (1 ≤ own) × (own ≤ 5)
