-- The first place at which a number stands.
use Rattle.std.specs.Prelude.{Bool, List, ℕ, eqb, ltb, get_or}
use Rattle.identifiers.specs.Below.{first_below}

-- the place of a number among the first n of a list, or n where it is not held there
unfoldable pub place_among : List ℕ → ℕ → ℕ → ℕ
place_among numbers n number = first_below (λ i. eqb (get_or numbers i 0) number) n

unfoldable pub held_among : List ℕ → ℕ → ℕ → Bool
held_among numbers n number = ltb (place_among numbers n number) n
