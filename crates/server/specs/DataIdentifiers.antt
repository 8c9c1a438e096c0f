-- Service 22: the data identifiers (document 01, "Server").
use Rattle.std.specs.Prelude.{List, [], ◌∷◌, ◌++◌, ℕ, ◌+◌, ◌*◌, ◌-◌, ◌/◌, get_or, length}
use Rattle.identifiers.specs.Choice.{pick}
use Rattle.identifiers.specs.Below.{list_below}
use Rattle.server.specs.Places.{place_among, held_among}
use Rattle.server.specs.Faults.{two_bytes}
use Rattle.server.specs.declared.trailer.TrailerRecord.{TrailerRecord}

-- how many identifiers a request asks, and which is the one at j
unfoldable pub asked_count : List ℕ → ℕ
asked_count request = (length request - 1) / 2

unfoldable pub asked_at : List ℕ → ℕ → ℕ
asked_at request j = get_or request (1 + 2 * j) 0 * 256 + get_or request (1 + 2 * j + 1) 0

-- the data of the identifier at place k: each has 32 bytes of room, and as many as its length says are its own
unfoldable pub data_of : TrailerRecord → ℕ → List ℕ
data_of t k = list_below (λ j. get_or t.bytes (32 * k + j) 0 ∷ []) (get_or t.lengths k 0)

-- "identifier and data"
unfoldable pub identifier_and_data : TrailerRecord → ℕ → List ℕ
identifier_and_data t k = two_bytes (get_or t.identifiers k 0) ++ data_of t k

-- what is answered for one identifier: nothing where it is not held
unfoldable pub answer_to : TrailerRecord → ℕ → List ℕ
answer_to t identifier = pick (held_among t.identifiers t.held identifier) (identifier_and_data t (place_among t.identifiers t.held identifier)) []

-- "identifier and data for each held one as asked, repeats too"
unfoldable pub answers_of : TrailerRecord → List ℕ → List ℕ
answers_of t request = list_below (λ j. answer_to t (asked_at request j)) (asked_count request)
