-- The line at the front of a text: up to the first newline, where there is one.
use Rattle.std.specs.Prelude.{Bool, not, List, ℕ, ◌+◌, eqb, ltb, length, take, Option, Some, None}
use Rattle.identifiers.specs.Choice.{pick}
use Rattle.logs.specs.Parts.{run_length}
use Rattle.logs.specs.Lines.{line_read}
use Rattle.logs.specs.declared.read.Front.{Front}

-- a byte that ends no line
unfoldable pub in_line : ℕ → Bool
in_line b = not (eqb b 10)

-- where the front line ends
unfoldable pub front_end : List ℕ → ℕ
front_end t = run_length in_line t

-- a line that a newline ends is read, and the next one begins behind it; one that has only begun is not read
unfoldable pub front_read : List ℕ → Option Front
front_read t = pick (ltb (front_end t) (length t)) (Some (record { next = front_end t + 1; line = line_read (take (front_end t) t) })) None
