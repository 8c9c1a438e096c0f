-- Laws of lines counted: byte after byte, and never more lines than bytes.
use mathlib.Core.Path.{◌≡◌, ap, ◌∙◌}
use mathlib.Core.List.{List, [], ◌∷◌}
use Prim.Native.Nat.{ℕ, ◌+◌, ◌≤◌, ◌<◌}
use native.Mathlib.Numerals.{add-one}
use native.Mathlib.Omega.{arith}
use lib.Dec.{eqb}
use lib.ListN.{length, get_or, take}
use lib.Seq.{take-suc, length-take-le}
use Rattle.std.proofs.lemmas.List.Sums.{count_by-le-length}
use Rattle.text.specs.Digits.{newlines}
use Rattle.text.proofs.LawsDigits.{newlines-append, newlines_count, not-newline, one-newline}

pub lines_within : (chunk : List ℕ) → newlines chunk ≤ length chunk
lines_within chunk = omega (arith, newlines_count chunk, count_by-le-length (λ b. eqb b 10) chunk)

pub lines_none : newlines [] ≡ 0
lines_none = omega (arith, newlines-append [] [])

next : (chunk : List ℕ) (i : ℕ) → i < length chunk → newlines (take (i + 1) chunk) ≡ newlines (take i chunk) + newlines (get_or chunk i 0 ∷ [])
next chunk i l =
    ap (λ (k : ℕ). newlines (take k chunk)) (add-one i) ∙ ap newlines (take-suc chunk i 0 l) ∙ newlines-append (take i chunk) (get_or chunk i 0 ∷ [])

module _ (chunk : List ℕ) (i : ℕ) (l : i < length chunk) where
  pub line-more : get_or chunk i 0 ≡ 10 → newlines (take i chunk) + 1 ≡ newlines (take (i + 1) chunk)
  line-more e = omega (arith, next chunk i l, ap (λ (b : ℕ). newlines (b ∷ [])) e, one-newline)

  pub line_same : (get_or chunk i 0 ≡ 10 → ⊥) → newlines (take i chunk) ≡ newlines (take (i + 1) chunk)
  line_same h = omega (arith, next chunk i l, not-newline (get_or chunk i 0) h)

pub passed-within : (chunk : List ℕ) (i : ℕ) → i ≤ length chunk → newlines (take i chunk) ≤ i
passed-within chunk i h = omega (arith, lines_within (take i chunk), length-take-le i chunk h)
