-- The digits of a number in front of its last one.
use Rattle.std.specs.Prelude.{List, [], ◌∷◌, ℕ, ◌+◌, ◌%◌, eqb}
use Rattle.identifiers.specs.Choice.{pick}

-- the last digit of what stands in front; nothing where nothing does
unfoldable pub leading_digit : ℕ → List ℕ
leading_digit front = pick (eqb front 0) [] ((48 + front % 10) ∷ [])
