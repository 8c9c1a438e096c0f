-- What the operating system answers, as far as a contract can say it: nothing is known of which bytes it brings, or of where they go.
use Rattle.std.specs.Prelude.{Bool, true, ℕ, ◌+◌, ◌^◌, leb, ltb, Option, Some, None, Result, Ok, Err}
use Rattle.identifiers.specs.Choice.{either}

-- the bytes read, or those of a word, lie in a buffer of so many
unfoldable pub within : {E : Type 0} → ℕ → Result ℕ E → Bool
within room (Ok n) = leb n room
within room (Err e) = true

-- so many words, and the program's name before them, can be counted
unfoldable pub words_within : ℕ → Bool
words_within n = ltb (n + 1) (2 ^ 64)

-- a number that a word says is below a bound
unfoldable pub below : ℕ → Option ℕ → Bool
below bound (Some n) = ltb n bound
below bound None = true

-- a text of no bytes is always written
unfoldable pub empty_written : ℕ → Bool → Bool
empty_written count done = either (ltb 0 count) done
