-- The identifier, read and written (document 01, "Identifier, vehicle, route"; 001; document 02, 2026-07).
use Rattle.std.specs.Prelude.{ℕ, ◌+◌, ◌*◌, ◌/◌, ◌%◌, ◌^◌, leb, ltb, eqb, Result, Ok, Err}
use Rattle.identifiers.specs.Choice.{pick, either}
use Rattle.identifiers.specs.Refusals.{refusal, number_of}
use Rattle.identifiers.specs.declared.identifier.Identifier.{Identifier}
use Rattle.identifiers.specs.declared.identifier.IdentifierReadTold.{IdentifierReadTold}
use Rattle.identifiers.specs.declared.identifier.IdentifierWrittenTold.{IdentifierWrittenTold}
use Rattle.identifiers.specs.declared.identifier.Target.{Target}
use Rattle.identifiers.specs.declared.identifier.Target.TheVariants.{Destination, GroupExtension}
use Rattle.identifiers.specs.declared.refusal.Refusal.{Refusal}

-- "Identifier = P x 2^26 + R x 2^25 + DP x 2^24 + PF x 2^16 + PS x 2^8 + SA"
unfoldable pub formula : Identifier → ℕ
formula i = i.priority * 2 ^ 26 + i.reserved * 2 ^ 25 + i.data_page * 2 ^ 24 + i.format * 2 ^ 16 + i.specific * 2 ^ 8 + i.source

-- "widths 3, 1, 1, 8, 8, 8": R of a number, and all six fields
unfoldable pub reserved_bit : ℕ → ℕ
reserved_bit n = n / 2 ^ 25 % 2 ^ 1

unfoldable pub fields_of : ℕ → Identifier
fields_of n = record {
  priority = n / 2 ^ 26 % 2 ^ 3;
  reserved = reserved_bit n;
  data_page = n / 2 ^ 24 % 2 ^ 1;
  format = n / 2 ^ 16 % 2 ^ 8;
  specific = n / 2 ^ 8 % 2 ^ 8;
  source = n % 2 ^ 8;
}

-- a frame's number, and how many data bytes it has: 2 "identifier 2^29 or more", 3 "more than 8 data bytes"
unfoldable pub frame_passing : ℕ → ℕ → Result Identifier Refusal
frame_passing n count =
    pick (leb (2 ^ 29) n) (Err (refusal 2))
    (pick (ltb 8 count) (Err (refusal 3))
    (Ok (fields_of n)))

-- 4 "R set", of a number that passes; document 02, 2026-07: "4 remains for receiver and message readings, at its place"
unfoldable pub read_passing : Result Identifier Refusal → Result Identifier Refusal
read_passing (Ok i) = pick (eqb i.reserved 1) (Err (refusal 4)) (Ok i)
read_passing (Err why) = Err why

unfoldable pub frame_read : ℕ → ℕ → Result Identifier Refusal
frame_read n count = read_passing (frame_passing n count)

-- a number alone, as that of a frame without data; document 02, 2026-07: "The identifier reader now gives R instead of refusing"
unfoldable pub read_of : ℕ → Result Identifier Refusal
read_of n = frame_passing n 0

-- 16 "P over 7 or DP over 1 to be written"; 2026-07: "the writer can set it when told", so that R over 1 is 16 as well
unfoldable pub written_as : Identifier → Result ℕ Refusal
written_as i =
    pick (either (ltb 7 i.priority) (either (ltb 1 i.reserved) (ltb 1 i.data_page))) (Err (refusal 16)) (Ok (formula i))

-- "PF below 240: PS is a destination. Otherwise a group extension."
unfoldable pub target_of : Identifier → Target
target_of i = pick (ltb i.format 240) (Destination i.specific) (GroupExtension i.specific)

-- the answers in document 01's numbers
unfoldable pub read_told : Result Identifier Refusal → IdentifierReadTold
read_told (Ok i) = record { refusal = 0; fields = i }
read_told (Err why) = record { refusal = number_of why; fields = record { priority = 0; reserved = 0; data_page = 0; format = 0; specific = 0; source = 0 } }

unfoldable pub written_told : Result ℕ Refusal → IdentifierWrittenTold
written_told (Ok n) = record { refusal = 0; number = n }
written_told (Err why) = record { refusal = number_of why; number = 0 }
