-- One line of a log read (document 02, 2026-02): the places of its parts, from the left, and what is answered.
use Rattle.std.specs.Prelude.{Bool, List, ℕ, ◌+◌, ◌*◌, ◌^◌, leb, ltb, eqb, length, get_or, None, Ok, Err}
use Rattle.identifiers.specs.Choice.{pick, both}
use Rattle.identifiers.specs.Refusals.{refusal}
use Rattle.text.specs.Digits.{between, is_digit}
use Rattle.logs.specs.Grammar.{stamp_of, number_of_name}
use Rattle.logs.specs.Outcomes.{LineRead, frame_said}
use Rattle.logs.specs.Parts.{end_of, part, digits_in, pairs_from}

-- ---- the places: the dot, the interface, the blank behind it, the mark, the end. The bracket stands seven behind the dot
unfoldable pub dot_at : List ℕ → ℕ
dot_at l = end_of (is_digit 10) l 1

unfoldable pub interface_at : List ℕ → ℕ
interface_at l = end_of (between 32 32) l (dot_at l + 8)

unfoldable pub gap_at : List ℕ → ℕ
gap_at l = end_of (between 33 126) l (interface_at l)

-- "three-digit identifiers", "eight hex digits": the mark stands behind three digits, or else behind eight
unfoldable pub is_three : List ℕ → Bool
is_three l = eqb (get_or l (gap_at l + 4) 0) 35

unfoldable pub mark_at : List ℕ → ℕ
mark_at l = pick (is_three l) (gap_at l + 4) (gap_at l + 9)

unfoldable pub line_bytes : List ℕ → List ℕ
line_bytes l = pairs_from 8 l (mark_at l + 1)

unfoldable pub end_at : List ℕ → ℕ
end_at l = mark_at l + 1 + 2 * length (line_bytes l)

-- the time stands in its brackets; behind it the interface between blanks, the identifier's digits and their mark
unfoldable pub timed : List ℕ → Bool
timed l =
    both (eqb (get_or l 0 0) 40)
    (both (ltb 1 (dot_at l)) (both (eqb (get_or l (dot_at l) 0) 46) (both (digits_in 10 l (dot_at l + 1) (dot_at l + 7)) (eqb (get_or l (dot_at l + 7) 0) 41))))

unfoldable pub parted : List ℕ → Bool
parted l = both (ltb (dot_at l + 8) (interface_at l)) (both (ltb (interface_at l) (gap_at l)) (eqb (get_or l (gap_at l) 0) 32))

unfoldable pub named : List ℕ → Bool
named l = both (parted l) (both (digits_in 16 l (gap_at l + 1) (mark_at l)) (eqb (get_or l (mark_at l) 0) 35))

-- the text begins with the parts of a line
unfoldable pub begins : List ℕ → Bool
begins l = both (timed l) (named l)

-- ---- what they say
unfoldable pub line_stamp : List ℕ → ℕ
line_stamp l = stamp_of (part l 1 (dot_at l)) (part l (dot_at l + 1) (dot_at l + 7))

unfoldable pub line_number : List ℕ → ℕ
line_number l = number_of_name (part l (gap_at l + 1) (mark_at l))

-- ---- what is answered
-- "Lines with three-digit identifiers are counted and passed over"; "then 2 for an identifier too large"
unfoldable pub said : List ℕ → LineRead
said l =
    pick (is_three l) (Ok None)
    (pick (leb (2 ^ 29) (line_number l)) (Err (refusal 2)) (frame_said (line_number l) (line_stamp l) (line_bytes l)))

-- "25 malformed line, more than 8 data bytes included": the parts are the whole line, of at most 255 bytes
unfoldable pub line_read : List ℕ → LineRead
line_read l = pick (both (begins l) (both (eqb (end_at l) (length l)) (leb (end_at l) 255))) (said l) (Err (refusal 25))
