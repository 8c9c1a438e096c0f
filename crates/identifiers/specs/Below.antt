-- What is said of every index below a number: a test, a count, a list, the first that has a property.
use Rattle.std.specs.Prelude.{Bool, true, List, [], ◌++◌, ℕ, zero, suc, ◌+◌, ltb}
use Rattle.identifiers.specs.Choice.{pick, both}

-- p holds of 0, 1, .. n - 1
unfoldable pub all_below : (ℕ → Bool) → ℕ → Bool
all_below p zero = true
all_below p (suc n) = both (all_below p n) (p n)

-- how many of 0, 1, .. n - 1 have p
unfoldable pub count_below : (ℕ → Bool) → ℕ → ℕ
count_below p zero = 0
count_below p (suc n) = pick (p n) (count_below p n + 1) (count_below p n)

-- f 0, then f 1, .. then f (n - 1)
unfoldable pub list_below : (ℕ → List ℕ) → ℕ → List ℕ
list_below f zero = []
list_below f (suc n) = list_below f n ++ f n

-- the first of 0, 1, .. n - 1 that has p, or n where none has
unfoldable pub first_below : (ℕ → Bool) → ℕ → ℕ
first_below p zero = 0
first_below p (suc n) = pick (ltb (first_below p n) n) (first_below p n) (pick (p n) n (suc n))
