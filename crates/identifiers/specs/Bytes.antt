-- Bytes written into a lent buffer.
use Rattle.std.specs.Prelude.{◌≡◌, List, [], ◌∷◌, ℕ, ◌+◌, length, set}

-- the buffer with the bytes from place at on, and every other byte as it was
unfoldable pub written : List ℕ → ℕ → List ℕ → List ℕ
written buffer at [] = buffer
written buffer at (b ∷ bytes) = written (set buffer at b) (at + 1) bytes

-- the bytes were put into the buffer from place at on, and end is the place after the last of them
pub record Puts (before : List ℕ) (at : ℕ) (bytes : List ℕ) (end : ℕ) (after : List ℕ) : Type 0 where
  pub ends : end ≡ at + length bytes
  pub holds : after ≡ written before at bytes
