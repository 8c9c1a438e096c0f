-- The mask rule, both ways, in the rule's own bits; a mask after a mask, and over the bits of two numbers together.
use mathlib.Core.Path.{◌≡◌, refl, sym, ap, ap₂, ◌∙◌}
use mathlib.Core.Bool.{Bool, true, false, not}
use mathlib.Core.Logic.{◌≢◌, ◌↔◌, ◌⊎◌, inl, inr}
use Prim.Native.Nat.{ℕ, ◌+◌, ◌*◌, ◌/◌, ◌%◌, min, max}
use native.Mathlib.Nat.{div-add-mod', min-le_left}
use native.Mathlib.Omega.{arith}
use borrow.Author.Tests.{eqb-true, eqb-false, eq-eqb, ne_eqb, not-true}
use lib.Dec.{eqb}
use lib.Arith.{bin_ind}
use lib.Bits.{bit_and, bit_or, and_step, or_step, and_shr, or_shr}
use Rattle.identifiers.specs.Choice.{either}
use Rattle.identifiers.proofs.LawsChoice.{both_true, so, left-holds, right-holds}
use Rattle.server.specs.Mask.{sound_mask}

one-or-other : (a b : ℕ) (n : ℕ) → either (eqb n a) (eqb n b) ≡ true → (n ≡ a) ⊎ (n ≡ b)
unfolding either
one-or-other a b n e = by (eqb n a) refl e
  where
    by : (t : Bool) → eqb n a ≡ t → either t (eqb n b) ≡ true → (n ≡ a) ⊎ (n ≡ b)
    by true q e = inl (eqb-true _ _ q)
    by false q e = inr (eqb-true _ _ e)

other-or-one : (a b : ℕ) (n : ℕ) → (n ≡ a) ⊎ (n ≡ b) → true ≡ either (eqb n a) (eqb n b)
other-or-one a b n (inl e) = left-holds _ (eq-eqb _ _ e)
other-or-one a b n (inr e) = right-holds _ (eq-eqb _ _ e)

-- "bits 0, 3 and 6 set; bit 2 only with bit 1; bits 4 and 5 together"
pub mask-rule : (mask : ℕ) → (sound_mask mask ≡ true) ↔ ((bit_and mask 0x49 ≡ 0x49) × ((bit_and mask 0x06 ≢ 0x04) × ((bit_and mask 0x30 ≡ 0x00) ⊎ (bit_and mask 0x30 ≡ 0x30))))
unfolding sound_mask
mask-rule mask = (
  λ e.
      let a = both_true _ _ e in
      let b = both_true _ _ a.0 in
      (eqb-true _ _ b.0, (eqb-false _ _ (not-true _ b.1), one-or-other _ _ _ a.1)),
  λ r. sym (so (sym (so (eq-eqb _ _ r.0) (sym (ap not (ne_eqb _ _ r.1.0))))) (other-or-one _ _ _ r.1.1)),
)

-- ---- a mask after a mask
low_bit : (a b : ℕ) → bit_and a b % 2 ≡ min (a % 2) (b % 2)
low_bit a b = omega (arith, and_step a b, min-le_left (a % 2) (b % 2))

pub and_assoc : (a b c : ℕ) → bit_and (bit_and a b) c ≡ bit_and a (bit_and b c)
and_assoc a = bin_ind (λ (n : ℕ). (b c : ℕ) → bit_and (bit_and n b) c ≡ bit_and n (bit_and b c)) (λ b c. refl)
    (λ n ih b c. and_step (bit_and n b) c
    ∙ ap₂ (λ (x y : ℕ). x * 2 + y) (ap (λ (x : ℕ). bit_and x (c / 2)) (and_shr n b 1) ∙ ih (b / 2) (c / 2) ∙ ap (bit_and (n / 2)) (sym (and_shr b c 1)))
    (omega (arith, low_bit n b, low_bit b c))
    ∙ sym (and_step n (bit_and b c))) a

-- ---- a mask over two numbers together
low-bit-of-or : (a b : ℕ) → bit_or a b % 2 ≡ max (a % 2) (b % 2)
low-bit-of-or a b = omega (arith, or_step a b)

pub and-of-or : (a b mask : ℕ) → bit_and (bit_or a b) mask ≡ bit_or (bit_and a mask) (bit_and b mask)
and-of-or a = bin_ind (λ (n : ℕ). (b mask : ℕ) → bit_and (bit_or n b) mask ≡ bit_or (bit_and n mask) (bit_and b mask)) (λ b mask. refl)
    (λ n ih b mask. and_step (bit_or n b) mask
    ∙ ap₂ (λ (x y : ℕ). x * 2 + y) (ap (λ (x : ℕ). bit_and x (mask / 2)) (or_shr n b 1) ∙ ih (b / 2) (mask / 2) ∙ sym (ap₂ bit_or (and_shr n mask 1) (and_shr b mask 1)))
    (omega (arith, low-bit-of-or n b, low_bit n mask, low_bit b mask))
    ∙ sym (or_step (bit_and n mask) (bit_and b mask))) a

absorbed : (a b : ℕ) → bit_and a (bit_or a b) ≡ a
absorbed a = bin_ind (λ (n : ℕ). (b : ℕ) → bit_and n (bit_or n b) ≡ n) (λ b. refl)
    (λ n ih b. and_step n (bit_or n b) ∙ ap₂ (λ (x y : ℕ). x * 2 + y) (ap (bit_and (n / 2)) (or_shr n b 1) ∙ ih (b / 2)) (omega (arith, low-bit-of-or n b)) ∙ div-add-mod' n 2) a

-- what has no bit outside a mask together with another has none by itself
pub part-within : (a b mask : ℕ) → bit_and (bit_or a b) mask ≡ bit_or a b → bit_and a mask ≡ a
part-within a b mask e = ap (λ (x : ℕ). bit_and x mask) (sym (absorbed a b)) ∙ and_assoc a (bit_or a b) mask ∙ ap (bit_and a) e ∙ absorbed a b
