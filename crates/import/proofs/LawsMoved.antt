-- Laws of bytes moved to the start of a buffer.
use mathlib.Core.Path.{◌≡◌, sym, ap, ◌∙◌}
use mathlib.Core.List.{List, [], ◌∷◌}
use Prim.Native.Nat.{ℕ, zero, suc, ◌+◌, ◌-◌, ◌≤◌}
use native.Mathlib.Omega.{arith}
use lib.ListN.{length, take, drop, length-drop}
use lib.Seq.{take-nil, take_at, length-take-le}
use Rattle.std.specs.List.{copy_within}
use Rattle.import.specs.Counting.{Moved}

-- the bytes between two places
between_is : (from n : ℕ) (l : List ℕ) → drop from (take (from + n) l) ≡ take n (drop from l)
between_is zero n l = let e : zero + n ≡ n = omega arith in ap (λ (k : ℕ). take k l) e
between_is (suc from) n [] = ap (drop (suc from)) (take-nil (suc from + n)) ∙ sym (take-nil n)
between_is (suc from) n (x ∷ xs) = let e : suc from + n ≡ suc (from + n) = omega arith in ap (λ (k : ℕ). drop (suc from) (take k (x ∷ xs))) e ∙ between_is from n xs

pub moved-front : (before : List ℕ) (from to : ℕ) {after : List ℕ} → from ≤ to → to ≤ length before → length after ≡ length before → after ≡ copy_within before from to 0
    → Moved before from to (to - from) after
moved-front before from to {after} h m long e =
    let n = to - from in
    let size : length (take n (drop from before)) ≡ n = length-take-le n (drop from before) (omega (arith, length-drop from before)) in
    let k : from + n ≡ to = omega arith in
    record {
      many = omega arith;
      stand = ap (take n) e ∙ take_at (take n (drop from before)) (drop (0 + n) before) n size ∙ sym (between_is from n before) ∙ ap (λ (j : ℕ). drop from (take j before)) k;
      long = long;
    }
