-- Laws of choices by a test, for ladders of returns: a rung is taken, or passed.
use mathlib.Core.Path.{◌≡◌, refl}
use mathlib.Core.Bool.{Bool, true, false, false≢true, ◌&&◌, ◌||◌}
use Rattle.identifiers.specs.Choice.{pick, both, either}

-- ---- pick
pub taken : {A : Type 0} {t : Bool} {x r : A} (y : A) → t ≡ true → r ≡ x → r ≡ pick t x y
unfolding pick
taken y e p = rw e p

pub passed : {A : Type 0} {t : Bool} {y r : A} (x : A) → t ≡ false → r ≡ y → r ≡ pick t x y
unfolding pick
passed x e p = rw e p

-- the same from the left: the choice becomes what is picked
pub pick_true : {A : Type 0} {t : Bool} (x y : A) → t ≡ true → pick t x y ≡ x
unfolding pick
pick_true x y e = rw e

pub pick-false : {A : Type 0} {t : Bool} (x y : A) → t ≡ false → pick t x y ≡ y
unfolding pick
pick-false x y e = rw e

-- P holds of x. It stays shut, so that antt finds a law's arguments.
pub record Holds {A : Type 0} (P : A → Type 0) (x : A) : Type 0 where
  pub holds : P x

-- what holds of both answers of a test holds of the one that is picked
pub by-test : {A : Type 0} {P : A → Type 0} (t : Bool) {x y : A} → (t ≡ true → Holds P x) → (t ≡ false → Holds P y) → Holds P (pick t x y)
unfolding pick
by-test true f g = f refl
by-test false f g = g refl

-- a ladder's answer that is not a rung's own: the rung was passed; one that is not what stands below it: the rung was taken
pub was-passed : {A : Type 0} (t : Bool) (x y r : A) → (x ≡ r → ⊥) → pick t x y ≡ r → (t ≡ false) × (y ≡ r)
unfolding pick
was-passed true x y r n e = absurd (n e)
was-passed false x y r n e = (refl, e)

pub was-taken : {A : Type 0} (t : Bool) (x y r : A) → (y ≡ r → ⊥) → pick t x y ≡ r → (t ≡ true) × (x ≡ r)
unfolding pick
was-taken true x y r n e = (refl, e)
was-taken false x y r n e = absurd (n e)

-- ---- both
-- what the code's `&` gives
pub and_is : (a b : Bool) → a && b ≡ both a b
unfolding both
and_is true b = refl
and_is false b = refl

pub stop : {a : Bool} (b : Bool) → a ≡ false → false ≡ both a b
unfolding both
stop b p = rw p

pub so : {a b r : Bool} → a ≡ true → r ≡ b → r ≡ both a b
unfolding both
so p q = rw p q

pub both_false : (a : Bool) → both a false ≡ false
unfolding both
both_false true = refl
both_false false = refl

pub true-after : (a : Bool) → both a true ≡ a
unfolding both
true-after true = refl
true-after false = refl

pub both-swap : (a b c d : Bool) → both (both a b) (both c d) ≡ both (both a c) (both b d)
unfolding both
both-swap true true c d = refl
both-swap true false true d = refl
both-swap true false false d = refl
both-swap false b c d = refl

pub both-assoc : (a b c : Bool) → both (both a b) c ≡ both a (both b c)
unfolding both
both-assoc true b c = refl
both-assoc false b c = refl

both_left : (a b : Bool) → both a b ≡ true → a ≡ true
unfolding both
both_left true b e = refl
both_left false b e = e

both_right : (a b : Bool) → both a b ≡ true → b ≡ true
unfolding both
both_right true b e = e
both_right false b e = absurd (false≢true e)

pub both_true : (a b : Bool) → both a b ≡ true → (a ≡ true) × (b ≡ true)
both_true a b e = (both_left a b e, both_right a b e)

-- ---- either
-- what the code's `|` gives
pub or_is : (a b : Bool) → a || b ≡ either a b
unfolding either
or_is true b = refl
or_is false b = refl

pub left-holds : {a : Bool} (b : Bool) → a ≡ true → true ≡ either a b
unfolding either
left-holds b p = rw p

pub right-holds : (a : Bool) {b : Bool} → b ≡ true → true ≡ either a b
unfolding either
right-holds true p = refl
right-holds false p = rw p

pub right-decides : {a b r : Bool} → a ≡ false → r ≡ b → r ≡ either a b
unfolding either
right-decides p q = rw p q

either_left : (a b : Bool) → either a b ≡ false → a ≡ false
unfolding either
either_left true b e = e
either_left false b e = refl

either-right : (a b : Bool) → either a b ≡ false → b ≡ false
unfolding either
either-right true b e = absurd (false≢true (rw e))
either-right false b e = e

pub either-false : (a b : Bool) → either a b ≡ false → (a ≡ false) × (b ≡ false)
either-false a b e = (either_left a b e, either-right a b e)
