-- A law of what trial prints.
use mathlib.Core.List.{◌++◌}
use Prim.Native.Nat.{ℕ, ◌^◌, ◌≤◌, ◌<◌}
use native.Mathlib.Omega.{arith}
use lib.ListN.{length, length-append}
use Rattle.text.specs.Digits.{decimal, blank}
use Rattle.text.proofs.LawsDigits.{length-decimal}

-- a number behind a blank
pub length-number : (n : ℕ) → n < 2 ^ 64 → length (blank ++ decimal n) ≤ 21
length-number n h = omega (arith, length-append blank (decimal n), length-decimal 20 n (omega arith) (omega arith))
