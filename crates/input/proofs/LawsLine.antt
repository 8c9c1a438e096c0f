-- Laws of a line in parts: a part that does not fit is left out, so the line ends within its buffer.
use mathlib.Core.List.{List, [], ◌∷◌, ◌++◌}
use Prim.Native.Nat.{ℕ, ◌+◌, ◌≤◌}
use native.Mathlib.Omega.{arith}
use lib.ListN.{length, set, length-set, length-append}
use Rattle.text.specs.Putting.{PutsIfFits}
use Rattle.text.proofs.LawsPutting.{if-fits-length, if-fits-within}

module _ {a b c first second : List ℕ} {named said : ℕ} (p : PutsIfFits a 0 first named b) (q : PutsIfFits b named second said c) where
  pub parts_within : said ≤ length a
  parts_within =
      let same = if-fits-length p in
      let first-within = if-fits-within (omega arith) p in
      omega (arith, same, if-fits-within (omega (arith, same, first-within)) q)

  -- the parts and one byte more
  pub line-within : (last newline : ℕ) → said + 1 ≤ length (set (c ++ (last ∷ [])) said newline)
  line-within last newline = rw (length-set, length-append) (omega (arith, parts_within, if-fits-length p, if-fits-length q))
