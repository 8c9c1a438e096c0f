-- Laws of the texts: each line ends in its one newline, and a table has one line more than readings.
use mathlib.Core.Path.{◌≡◌, refl, ◌∙◌}
use mathlib.Core.List.{List, [], ◌∷◌, ◌++◌}
use Prim.Native.Nat.{ℕ, ◌+◌}
use native.Mathlib.Omega.{arith}
use Rattle.identifiers.specs.Below.{list_below}
use Rattle.identifiers.specs.Choice.{pick}
use Rattle.text.specs.Digits.{newlines}
use Rattle.text.proofs.LawsDigits.{newlines-append, newlines-decimal-in, newlines-hex, newlines-lines, no-newline, one-newline}
use Rattle.sheet.specs.Basis.{basis_of}
use Rattle.sheet.specs.Text.{header, word_of, numbers_of, line_of, refusal_line}
use Rattle.sheet.specs.declared.basis.Basis.{Basis}
use Rattle.sheet.specs.declared.basis.Basis.TheVariants.{None, Full, Part}
use Rattle.sheet.specs.declared.reading.CountReading.{CountReading}

newlines-word : (b : Basis) → newlines (word_of b) ≡ 0
unfolding word_of pick
newlines-word None = refl
newlines-word Full = refl
newlines-word Part = refl

newlines-header : newlines header ≡ 1
unfolding pick
newlines-header = refl

pub newlines-line : (r : CountReading) → newlines (line_of r) ≡ 1
unfolding line_of numbers_of
newlines-line r =
    simp newlines-append (omega (arith, newlines-decimal-in 5 r.position, newlines-decimal-in 5 r.count, newlines-hex r.mask, newlines-hex r.available, newlines-word (basis_of r.mask r.available), no-newline 32 (omega arith), one-newline))

refused-word : newlines (114 ∷ 101 ∷ 102 ∷ 117 ∷ 115 ∷ 101 ∷ 100 ∷ 32 ∷ []) ≡ 0
unfolding pick
refused-word = refl

at-word : newlines (32 ∷ 97 ∷ 116 ∷ 32 ∷ []) ≡ 0
unfolding pick
at-word = refl

pub newlines-refusal : (number offset : ℕ) → newlines (refusal_line number offset) ≡ 1
unfolding refusal_line
newlines-refusal number offset =
    simp newlines-append (omega (arith, newlines-decimal-in 5 number, newlines-decimal-in 5 offset, refused-word, at-word, one-newline))

pub newlines-table : (f : ℕ → List ℕ) (n : ℕ) → ((k : ℕ) → newlines (f k) ≡ 1) → newlines (header ++ list_below f n) ≡ n + 1
newlines-table f n h = newlines-append header (list_below f n) ∙ omega (arith, newlines-header, newlines-lines f n h)
