-- A law of the tables: what stands where one part is taken, or nothing where there is none.
use Rattle.std.proofs.Common.{◌≡◌, refl}
use Rattle.std.specs.Prelude.{Option, Some, None}
use Rattle.std.specs.Option.{unwrap_or, option_map}

-- what is read of the taken part is the part read
pub read_after : {A B : Type 0} (read : A → B) (taken : Option A) (other : A) → read (unwrap_or taken other) ≡ unwrap_or (option_map read taken) (read other)
read_after read (Some part) other = refl
read_after read None other = refl
