-- The basis of a count (document 01, "Count sheet").
use Rattle.std.specs.Prelude.{◌≡◌, ℕ, eqb}
use Rattle.std.specs.Int.Bits.{bit_and}
use Rattle.identifiers.specs.Choice.{pick}
use Rattle.sheet.specs.declared.basis.Basis.{Basis}
use Rattle.sheet.specs.declared.basis.Basis.TheVariants.{None, Full, Part}

-- "none if mask AND available is 0, else full if it equals the mask, else part"
unfoldable pub basis_of : ℕ → ℕ → Basis
basis_of mask available = pick (eqb (bit_and mask available) 0) None (pick (eqb (bit_and mask available) mask) Full Part)

-- the same, as what each word says
abbrev pub Says : ℕ → ℕ → Basis → Type 0
Says mask available None = bit_and mask available ≡ 0
Says mask available Full = (bit_and mask available ≡ 0 → ⊥) × (bit_and mask available ≡ mask)
Says mask available Part = (bit_and mask available ≡ 0 → ⊥) × (bit_and mask available ≡ mask → ⊥)
