-- The basis of a count: each word holds exactly where document 01 says, by the two tests.
use mathlib.Core.Path.{◌≡◌, ◌∙◌}
use Prim.Native.Nat.{ℕ}
use borrow.Author.Tests.{eq-eqb, ne_eqb, eqb-true, eqb-false}
use lib.Dec.{eqb}
use lib.Bits.{bit_and}
use Rattle.identifiers.proofs.LawsChoice.{Holds, by-test, pick_true, pick-false}
use Rattle.sheet.specs.Basis.{basis_of, Says}
use Rattle.sheet.specs.declared.basis.Basis.{Basis}
use Rattle.sheet.specs.declared.basis.Basis.TheVariants.{None, Full, Part}

holds : (m a : ℕ) → Holds (Says m a) (basis_of m a)
unfolding basis_of
holds m a =
    by-test (eqb (bit_and m a) 0) (λ p. record { holds = eqb-true _ _ p })
    (λ p. by-test (eqb (bit_and m a) m) (λ q. record { holds = (eqb-false _ _ p, eqb-true _ _ q) }) (λ q. record { holds = (eqb-false _ _ p, eqb-false _ _ q) }))

basis-only : (m a : ℕ) (b : Basis) → Says m a b → basis_of m a ≡ b
unfolding basis_of
basis-only m a None h = pick_true _ _ (eq-eqb _ _ h)
basis-only m a Full h = pick-false _ _ (ne_eqb _ _ h.0) ∙ pick_true _ _ (eq-eqb _ _ h.1)
basis-only m a Part h = pick-false _ _ (ne_eqb _ _ h.0) ∙ pick-false _ _ (ne_eqb _ _ h.1)

pub basis-exactly : (m a : ℕ) (b : Basis) → (basis_of m a ≡ b → Says m a b) × (Says m a b → basis_of m a ≡ b)
basis-exactly m a b = ((λ (e : basis_of m a ≡ b). rw e at (holds m a).holds), basis-only m a b)
