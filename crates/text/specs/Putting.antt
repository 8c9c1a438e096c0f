-- A text put into a lent buffer: whole where it fits, and not at all where it does not.
use Rattle.std.specs.Prelude.{◌≡◌, Bool, List, ℕ, ◌+◌, leb, length}
use Rattle.identifiers.specs.Choice.{pick}
use Rattle.identifiers.specs.Bytes.{written}

-- so many bytes fit the buffer from a place on
unfoldable pub fits : List ℕ → ℕ → ℕ → Bool
fits buffer at count = leb (at + count) (length buffer)

-- where the text fits it was put from the place on, and end is the place behind it; else nothing was written, and end is the place
pub record PutsIfFits (before : List ℕ) (at : ℕ) (text : List ℕ) (end : ℕ) (after : List ℕ) : Type 0 where
  pub ends : end ≡ pick (fits before at (length text)) (at + length text) at
  pub holds : after ≡ pick (fits before at (length text)) (written before at text) before
