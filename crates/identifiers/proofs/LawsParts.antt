-- What bytes written into a buffer do to a part of it: they extend the part that they stand right behind, and leave the parts beside them.
use mathlib.Core.Path.{◌≡◌, sym, ap, ◌∙◌}
use mathlib.Core.List.{List, [], ◌∷◌, ◌++◌}
use Prim.Native.Nat.{ℕ, zero, suc, ◌+◌, ◌≤◌}
use native.Mathlib.Nat.{zero-add, suc-add}
use native.Mathlib.Omega.{arith}
use lib.ListN.{length, take, drop, length-take}
use lib.Seq.{take-nil, drop-append-le}
use Rattle.identifiers.specs.Bytes.{written}
use Rattle.identifiers.proofs.LawsBytes.{front-stays, back-stays, take-written}

-- a part, from the front
part-of-front : (a n : ℕ) (l : List ℕ) → take n (drop a l) ≡ drop a (take (a + n) l)
part-of-front zero n l = rw zero-add
part-of-front (suc a) n [] = rw (take-nil n, take-nil (suc a + n))
part-of-front (suc a) n (x ∷ xs) = rw suc-add (part-of-front a n xs)

-- bytes right behind the first n of a part
pub grows : (buffer : List ℕ) (a n : ℕ) (bytes : List ℕ) → a + n + length bytes ≤ length buffer
    → take (n + length bytes) (drop a (written buffer (a + n) bytes)) ≡ take n (drop a buffer) ++ bytes
grows buffer a n bytes h =
    let e : a + (n + length bytes) ≡ a + n + length bytes = omega arith in
    part-of-front a (n + length bytes) (written buffer (a + n) bytes)
    ∙ ap (λ (i : ℕ). drop a (take i (written buffer (a + n) bytes))) e
    ∙ ap (drop a) (take-written buffer (a + n) bytes h)
    ∙ drop-append-le a (take (a + n) buffer) bytes (simp length-take (omega arith))
    ∙ ap (λ (l : List ℕ). l ++ bytes) (sym (part-of-front a n buffer))

-- a part that ends before the bytes, and one that begins behind them
pub part-before : (buffer : List ℕ) (at : ℕ) (bytes : List ℕ) (a n : ℕ) → a + n ≤ at → take n (drop a (written buffer at bytes)) ≡ take n (drop a buffer)
part-before buffer at bytes a n h = part-of-front a n (written buffer at bytes) ∙ ap (drop a) (front-stays buffer at bytes (a + n) h) ∙ sym (part-of-front a n buffer)

pub part-behind : (buffer : List ℕ) (at : ℕ) (bytes : List ℕ) (a n : ℕ) → at + length bytes ≤ a → take n (drop a (written buffer at bytes)) ≡ take n (drop a buffer)
part-behind buffer at bytes a n h = ap (take n) (back-stays buffer at bytes a h)
