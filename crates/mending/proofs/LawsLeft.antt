-- A text put into a buffer in runs: what stands there and what is left are the whole text.
use mathlib.Core.Path.{◌≡◌, refl, sym, ap, ◌∙◌}
use mathlib.Core.List.{List, [], ◌++◌}
use Prim.Native.Nat.{ℕ, ◌+◌, ◌≤◌}
use native.Mathlib.Omega.{arith}
use lib.ListN.{length, length-append}
use Rattle.identifiers.specs.Bytes.{written, Puts}
use Rattle.identifiers.proofs.LawsBytes.{written_none, length-written, written-append}

-- up to the place, the text stands in the buffer; with what is left from there on it is whole
pub record Left (before text buffer : List ℕ) (at : ℕ) (rest : List ℕ) : Type 0 where
  pub ends : at + length rest ≡ length text
  pub gives : written buffer at rest ≡ written before 0 text

pub left-all : (before text : List ℕ) → Left before text before 0 text
left-all before text = record { ends = omega arith; gives = refl }

module _ {before text buffer : List ℕ} {at : ℕ} {rest : List ℕ} (h : Left before text buffer at rest) where
  pub left-length : length buffer ≡ length before
  left-length = sym (length-written buffer at rest) ∙ ap length h.gives ∙ length-written before 0 text

  -- the same rest, said otherwise
  pub left_as : {more : List ℕ} → rest ≡ more → Left before text buffer at more
  left_as e = rw e at h

  pub left-room : (run more : List ℕ) → length text ≤ length before → rest ≡ run ++ more → at + length run ≤ length buffer
  left-room run more l e = omega (arith, h.ends, left-length, ap length e, length-append run more)

  pub left-put : {run after : List ℕ} {end : ℕ} (more : List ℕ) → rest ≡ run ++ more → Puts buffer at run end after → Left before text after end more
  left-put {run} {after} {end} more e p =
      record {
        ends = omega (arith, h.ends, p.ends, ap length e, length-append run more);
        gives = ap (λ (x : List ℕ). written x end more) p.holds
            ∙ ap (λ (k : ℕ). written (written buffer at run) k more) p.ends
            ∙ sym (written-append buffer at run more)
            ∙ ap (written buffer at) (sym e)
            ∙ h.gives;
      }

  pub left-none : rest ≡ [] → Puts before 0 text at buffer
  left-none e =
      record { ends = omega (arith, h.ends, ap length e); holds = sym (ap (written buffer at) e ∙ written_none buffer at) ∙ h.gives }
