-- The f32 that stands for a whole number over a divisor, and what it means that it does so exactly (document 01, "Readings").
use Rattle.std.specs.Prelude.{◌≡◌, true, false, ℕ, suc, ◌^◌, ◌≤◌, ℤ, pos, negsuc, Float}
use Rattle.std.specs.Float.{binary32}
use Rattle.std.specs.Float.Ieee.{round}
use Rattle.std.specs.Float.Ieee.Exact.{HasValue}

-- the f32 nearest to z / d; 0 is +0
unfoldable pub fraction : ℤ → ℕ → Float
fraction (pos n) d = round binary32 false n d
fraction (negsuc n) d = round binary32 true (suc n) d

-- x is finite, and x times d is z, exactly: with x = ±m * 2 ^ e, the sign is that of z, and m * 2 ^ e * d is the size of z
unfoldable pub Exact : Float → ℤ → ℕ → Type 0
Exact x (pos n) d = HasValue x false n d
Exact x (negsuc n) d = HasValue x true (suc n) d

-- d is a power of two that two bytes hold
pub record PowerOfTwo (d : ℕ) : Type 0 where
  pub exponent : ℕ
  pub small : exponent ≤ 15
  pub power : d ≡ 2 ^ exponent
