-- The difference of two natural numbers as a signed one: it is what the kind's whole number is, it fits a signed width, and it is read back from it.
use mathlib.Core.Path.{◌≡◌, refl, sym, ap, ◌∙◌, subst}
use mathlib.Core.Bool.{Bool, true, false, cond}
use Prim.Native.Nat.{ℕ, zero, suc, ◌-◌, ◌*◌, ◌^◌, ◌≤◌, ◌<◌}
use native.Mathlib.Nat.{zero-mul}
use native.Mathlib.Omega.{arith}
use borrow.Author.Tests.{ltb-true, ltb-false, le-ltb}
use lib.Dec.{ltb}
use lib.IntN.{ℤ, pos, negsuc, sub_ℕ, neg_ℤ, nat_abs, ◌+ℤ◌, ◌-ℤ◌, ◌*ℤ◌}
use lib.Signed.{mag}
use mir.Syntax.{Width}
use mir.Val.{SFits, hbits, to_z, of_z}
use mir.Facts.{to_z_pos, to_z-of_z}
use Rattle.readings.specs.declared.kind.Kind.{Kind}
use Rattle.readings.specs.Kinds.{whole_of}

minus_is : (a b : ℕ) → pos a -ℤ pos b ≡ sub_ℕ a b
minus_is a zero = simp (le-ltb a 0 (omega arith)) (ap pos (omega arith))
minus_is a (suc b) = refl

offset-is : (a l d : ℕ) → pos a +ℤ neg_ℤ (pos l) *ℤ pos d ≡ sub_ℕ a (l * d)
offset-is a zero d = rw zero-mul (minus_is a zero)
offset-is a (suc l) d = minus_is a (suc l * d)

pub whole_is : (k : Kind) (raw : ℕ) → whole_of k raw ≡ sub_ℕ raw (k.below * k.divisor)
unfolding whole_of
whole_is k raw = offset-is raw k.below k.divisor

-- how large it is, by the case of its sign
pub size-sub : (a b h : ℕ) → a < h → b < h → nat_abs (sub_ℕ a b) < h
size-sub a b h A B = go (ltb a b) refl
  where
    go : (t : Bool) → ltb a b ≡ t → nat_abs (cond t (negsuc (b - suc a)) (pos (a - b))) < h
    go true e = omega (arith, ltb-true a b e)
    go false e = omega (arith, ltb-false a b e)

mag-sub : (a b h : ℕ) → a < h → b ≤ h → mag (sub_ℕ a b) < h
mag-sub a b h A B = go (ltb a b) refl
  where
    go : (t : Bool) → ltb a b ≡ t → mag (cond t (negsuc (b - suc a)) (pos (a - b))) < h
    go true e = omega (arith, ltb-true a b e)
    go false e = omega (arith, ltb-false a b e)

-- once for every width
module _ (w : Width) (a b : ℕ) (A : a < 2 ^ hbits w) (B : b < 2 ^ hbits w) where
  difference-is : to_z w a -ℤ to_z w b ≡ sub_ℕ a b
  difference-is = rw (to_z_pos w A, to_z_pos w B) (minus_is a b)

  pub difference-fits : SFits w (to_z w a -ℤ to_z w b)
  difference-fits = subst (λ (z : ℤ). SFits w z) (sym difference-is) (record { sfits = mag-sub a b (2 ^ hbits w) A (omega arith) })

  pub difference-read : to_z w (of_z w (to_z w a -ℤ to_z w b)) ≡ sub_ℕ a b
  difference-read = to_z-of_z difference-fits ∙ difference-is
