-- Laws of severity: the match, what is listed and how long it is, and that there is room for it.
use mathlib.Core.Path.{◌≡◌, refl, sym}
use mathlib.Core.Bool.{true, false}
use mathlib.Core.List.{List, []}
use mathlib.Core.Logic.{◌≢◌, ◌↔◌}
use Prim.Native.Nat.{ℕ, ◌+◌, ◌≤◌, ◌<◌}
use native.Mathlib.Omega.{arith}
use lib.Bits.{bit_and}
use lib.ListN.{length}
use Rattle.identifiers.specs.Below.{list_below}
use Rattle.identifiers.specs.Bytes.{Puts}
use Rattle.identifiers.proofs.LawsChoice.{taken, pick-false, both_true, so}
use Rattle.identifiers.proofs.LawsBelow.{length_more, length-mono}
use Rattle.identifiers.proofs.LawsBytes.{keeps-length}
use Rattle.server.specs.Faults.{code_and_status}
use Rattle.server.specs.Severity.{severe, severity_to_status, severe_at}
use Rattle.server.specs.declared.severity.Masks.{Masks}
use Rattle.server.proofs.LawsFaults.{matches-exactly}

-- "a match needs a common bit with both"
pub severe-both : (masks : Masks) (severity status : ℕ) → severe masks severity status ≡ true ↔ ((bit_and severity masks.severity ≢ 0) × (bit_and status masks.status ≢ 0))
unfolding severe
severe-both masks severity status = (
  λ e. let b = both_true _ _ e in ((matches-exactly severity masks.severity).0 b.0, (matches-exactly status masks.status).0 b.1),
  λ h. sym (so ((matches-exactly severity masks.severity).1 h.0) (sym ((matches-exactly status masks.status).1 h.1))),
)

pub six : (severity unit code status : ℕ) → length (severity_to_status severity unit code status) ≡ 6
unfolding severity_to_status code_and_status
six severity unit code status = refl

module _ (masks : Masks) (severity unit code status : ℕ) where
  pub severe-hit : severe masks severity status ≡ true → severity_to_status severity unit code status ≡ severe_at masks severity unit code status
  unfolding severe_at
  severe-hit e = taken _ e refl

  pub severe-miss : severe masks severity status ≡ false → severe_at masks severity unit code status ≡ []
  unfolding severe_at
  severe-miss e = pick-false _ _ e

-- there is room for one code that matches where there is for all of them
pub severe-fits : (f : ℕ → List ℕ) (start i n : ℕ) {at : ℕ} {before now : List ℕ} → length (f i) ≡ 6 → i < n → Puts before start (list_below f i) at now → start + length (list_below f n) ≤ length before → at + 6 ≤ length now
severe-fits f start i n e l p h = omega (arith, e, p.ends, keeps-length p, length_more f i, length-mono f (i + 1) n (omega arith))
