-- The refusal of a number and the number of a refusal are inverse: by a look at each case, and a test over the table.
use mathlib.Core.Path.{◌≡◌, refl}
use mathlib.Core.Bool.{Bool, true}
use Prim.Native.Nat.{ℕ, ◌+◌, ◌-◌, ◌≤◌}
use native.Mathlib.Omega.{arith}
use lib.Dec.{eqb}
use borrow.Author.Tests.{eqb-true}
use Rattle.identifiers.specs.Choice.{both}
use Rattle.identifiers.specs.Below.{all_below}
use Rattle.identifiers.specs.Refusals.{refusal, number_of}
use Rattle.identifiers.proofs.LawsBelow.{all-at}
use Rattle.identifiers.specs.declared.refusal.Refusal.{Refusal}
use Rattle.identifiers.specs.declared.refusal.Refusal.TheVariants.{RulesBroken, IdentifierTooLarge, TooManyDataBytes, ReservedBitSet, NotDiagnostic, NoOtherVehicle, OtherDestination, OtherUnit, Malformed, FlowControl, OverLong, NothingOpen}
use Rattle.identifiers.specs.declared.refusal.Refusal.TheVariants.{WrongNumber, Late, NoAddress, NotWritable, WrongLength, CodeNotHeld, StatusOutsideMask, NoReading, InputTooLong, FieldCutShort, WrongTagOrLength, WrongContent, MalformedLine}

pub refusal-of-number : (r : Refusal) → refusal (number_of r) ≡ r
refusal-of-number RulesBroken = refl
refusal-of-number IdentifierTooLarge = refl
refusal-of-number TooManyDataBytes = refl
refusal-of-number ReservedBitSet = refl
refusal-of-number NotDiagnostic = refl
refusal-of-number NoOtherVehicle = refl
refusal-of-number OtherDestination = refl
refusal-of-number OtherUnit = refl
refusal-of-number Malformed = refl
refusal-of-number FlowControl = refl
refusal-of-number OverLong = refl
refusal-of-number NothingOpen = refl
refusal-of-number WrongNumber = refl
refusal-of-number Late = refl
refusal-of-number NoAddress = refl
refusal-of-number NotWritable = refl
refusal-of-number WrongLength = refl
refusal-of-number CodeNotHeld = refl
refusal-of-number StatusOutsideMask = refl
refusal-of-number NoReading = refl
refusal-of-number InputTooLong = refl
refusal-of-number FieldCutShort = refl
refusal-of-number WrongTagOrLength = refl
refusal-of-number WrongContent = refl
refusal-of-number MalformedLine = refl

-- the number of the refusal that stands at i + 1
right : ℕ → Bool
right i = eqb (number_of (refusal (i + 1))) (i + 1)

all_right : all_below right 25 ≡ true
unfolding all_below both right
all_right = refl

pub number-of-refusal : (n : ℕ) → 1 ≤ n → n ≤ 25 → number_of (refusal n) ≡ n
unfolding right
number-of-refusal n a b =
    let e : n - 1 + 1 ≡ n = omega arith in
    let h : number_of (refusal (n - 1 + 1)) ≡ n - 1 + 1 = eqb-true _ _ (all-at right (n - 1) 25 all_right (omega arith)) in
    rw e at h
