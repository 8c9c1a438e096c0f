-- The refusal numbers (document 01, "Refusal numbers"): the number of each case, and the case of each number.
use Rattle.std.specs.Prelude.{List, [], ◌∷◌, ℕ, ◌-◌, get_or}
use Rattle.identifiers.specs.declared.refusal.Refusal.{Refusal}
use Rattle.identifiers.specs.declared.refusal.Refusal.TheVariants.{RulesBroken, IdentifierTooLarge, TooManyDataBytes, ReservedBitSet, NotDiagnostic, NoOtherVehicle, OtherDestination, OtherUnit, Malformed, FlowControl, OverLong, NothingOpen}
use Rattle.identifiers.specs.declared.refusal.Refusal.TheVariants.{WrongNumber, Late, NoAddress, NotWritable, WrongLength, CodeNotHeld, StatusOutsideMask, NoReading, InputTooLong, FieldCutShort, WrongTagOrLength, WrongContent, MalformedLine}

-- the cases in the order of their numbers, from 1 on
abbrev pub refusals : List Refusal
refusals =
    RulesBroken
    ∷ IdentifierTooLarge
    ∷ TooManyDataBytes
    ∷ ReservedBitSet
    ∷ NotDiagnostic
    ∷ NoOtherVehicle
    ∷ OtherDestination
    ∷ OtherUnit
    ∷ Malformed
    ∷ FlowControl
    ∷ OverLong
    ∷ NothingOpen
    ∷ WrongNumber
    ∷ Late
    ∷ NoAddress
    ∷ NotWritable
    ∷ WrongLength
    ∷ CodeNotHeld
    ∷ StatusOutsideMask
    ∷ NoReading
    ∷ InputTooLong
    ∷ FieldCutShort
    ∷ WrongTagOrLength
    ∷ WrongContent
    ∷ MalformedLine
    ∷ []

-- the refusal of a number 1 to 25: `refusal 9` is what "refusal 9" says
abbrev pub refusal : ℕ → Refusal
refusal n = get_or refusals (n - 1) RulesBroken

abbrev pub number_of : Refusal → ℕ
number_of RulesBroken = 1
number_of IdentifierTooLarge = 2
number_of TooManyDataBytes = 3
number_of ReservedBitSet = 4
number_of NotDiagnostic = 5
number_of NoOtherVehicle = 6
number_of OtherDestination = 7
number_of OtherUnit = 8
number_of Malformed = 9
number_of FlowControl = 10
number_of OverLong = 11
number_of NothingOpen = 12
number_of WrongNumber = 13
number_of Late = 14
number_of NoAddress = 15
number_of NotWritable = 16
number_of WrongLength = 17
number_of CodeNotHeld = 18
number_of StatusOutsideMask = 19
number_of NoReading = 20
number_of InputTooLong = 21
number_of FieldCutShort = 22
number_of WrongTagOrLength = 23
number_of WrongContent = 24
number_of MalformedLine = 25
