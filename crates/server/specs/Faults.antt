-- Services 14 and 19: the match, the count, the cleared statuses and the report (document 01, "Server").
use Rattle.std.specs.Prelude.{Bool, not, List, [], ◌∷◌, ℕ, zero, suc, ◌/◌, ◌%◌, eqb, get_or, set}
use Rattle.std.specs.Int.Bits.{bit_and}
use Rattle.identifiers.specs.Choice.{pick, either}
use Rattle.identifiers.specs.Below.{count_below, list_below}
use Rattle.server.specs.Places.{held_among}
use Rattle.server.specs.declared.trailer.TrailerRecord.{TrailerRecord}

-- "Match: status AND mask is not 0."
unfoldable pub matches : ℕ → ℕ → Bool
matches status mask = not (eqb (bit_and status mask) 0)

-- is a status listed: in a report of all, or by the match
unfoldable pub listed : Bool → ℕ → ℕ → Bool
listed all mask status = either all (matches status mask)

-- how many of the held codes are listed
unfoldable pub count_listed : TrailerRecord → Bool → ℕ → ℕ
count_listed t all mask = count_below (λ i. listed all mask (get_or t.statuses i 0)) t.count

-- a number in two bytes, high first
unfoldable pub two_bytes : ℕ → List ℕ
two_bytes number = number / 256 % 256 ∷ number % 256 ∷ []

-- "code and status": three bytes, high first, and one
unfoldable pub code_and_status : ℕ → ℕ → List ℕ
code_and_status code status = code / 65536 % 256 ∷ code / 256 % 256 ∷ code % 256 ∷ status ∷ []

-- what one code has in a report: nothing where it is not listed
unfoldable pub reported : Bool → ℕ → ℕ → ℕ → List ℕ
reported all mask code status = pick (listed all mask status) (code_and_status code status) []

-- "code and status of each match, in order"; "all likewise"
unfoldable pub report_of : TrailerRecord → Bool → ℕ → List ℕ
report_of t all mask = list_below (λ i. reported all mask (get_or t.codes i 0) (get_or t.statuses i 0)) t.count

-- "`FFFFFF` or a held code"
unfoldable pub group_held : TrailerRecord → ℕ → Bool
group_held t group = either (eqb group 0xFFFFFF) (held_among t.codes t.count group)

unfoldable pub in_group : ℕ → ℕ → Bool
in_group group code = either (eqb group 0xFFFFFF) (eqb code group)

-- of the first n places those that have p hold the status, and every other place what it held
unfoldable pub stored_below : (ℕ → Bool) → ℕ → List ℕ → ℕ → List ℕ
stored_below p status statuses zero = statuses
stored_below p status statuses (suc n) = pick (p n) (set (stored_below p status statuses n) n status) (stored_below p status statuses n)

-- "those statuses become `50` AND the availability mask"
unfoldable pub cleared_of : TrailerRecord → ℕ → List ℕ
cleared_of t group = stored_below (λ i. in_group group (get_or t.codes i 0)) (bit_and 0x50 t.availability) t.statuses t.count
