-- Service 19, 07 and 08: the faults by their severity (document 02, 2026-08).
use Rattle.std.specs.Prelude.{Bool, List, [], ◌∷◌, ℕ}
use Rattle.identifiers.specs.Choice.{pick, both}
use Rattle.server.specs.Faults.{matches, code_and_status}
use Rattle.server.specs.declared.severity.Masks.{Masks}

-- "severity mask and status mask, .. a match needs a common bit with both"
unfoldable pub severe : Masks → ℕ → ℕ → Bool
severe masks severity status = both (matches severity masks.severity) (matches status masks.status)

-- "severity, unit, code and status, six bytes each"
unfoldable pub severity_to_status : ℕ → ℕ → ℕ → ℕ → List ℕ
severity_to_status severity unit code status = severity ∷ unit ∷ code_and_status code status

-- what one code has in report 08: nothing where it does not match
unfoldable pub severe_at : Masks → ℕ → ℕ → ℕ → ℕ → List ℕ
severe_at masks severity unit code status = pick (severe masks severity status) (severity_to_status severity unit code status) []
