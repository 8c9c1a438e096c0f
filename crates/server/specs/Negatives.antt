-- Where a negative code is due for the content of a request, in its bytes: the form is right and the content is not (document 01, "Server").
use Rattle.std.specs.Prelude.{◌≡◌, List, [], ◌∷◌, ◌≢◌, ℕ, ◌+◌, ◌*◌, ◌%◌, ◌≤◌, ◌<◌, get_or, length, Some, None, Ok}
use Rattle.identifiers.specs.Bytes.{written}
use Rattle.server.specs.DataIdentifiers.{answers_of}
use Rattle.server.specs.Server.{Effect, effect}
use Rattle.server.specs.declared.trailer.TrailerRecord.{TrailerRecord}

module _ (t : TrailerRecord) (q : List ℕ) where
  -- 31: "`FFFFFF` or a held code; .. Other groups 31", the group high first; "No asked identifier is held: 31", each of two bytes, high first
  pub data NotHeld : Type 0 where
    no_code : get_or q 0 0 ≡ 0x14 → length q ≡ 4 → get_or q 1 0 * 65536 + get_or q 2 0 * 256 + get_or q 3 0 ≢ 0xFFFFFF
        → ((i : ℕ) → i < t.count → get_or t.codes i 0 ≢ get_or q 1 0 * 65536 + get_or q 2 0 * 256 + get_or q 3 0) → NotHeld
    no_identifier : get_or q 0 0 ≡ 0x22 → 3 ≤ length q → length q % 2 ≡ 1
        → ((j k : ℕ) → 2 + 2 * j < length q → k < t.held → get_or t.identifiers k 0 ≢ get_or q (1 + 2 * j) 0 * 256 + get_or q (2 + 2 * j) 0) → NotHeld

  -- 14: "Over 255 bytes: 14", the 62 and what is answered for each identifier; so one is held at least
  pub data TooLong : Type 0 where
    over_255 : get_or q 0 0 ≡ 0x22 → 3 ≤ length q → length q % 2 ≡ 1 → 255 < 1 + length (answers_of t q) → TooLong

-- "Negative: `7F`, service, code": the record as it was, three bytes sent, and every byte of the buffer
abbrev pub negative_sent : TrailerRecord → List ℕ → List ℕ → ℕ → Effect
negative_sent t q response code = effect t (Ok (Some 3)) (written response 0 (0x7F ∷ get_or q 0 0 ∷ code ∷ []))

-- "all stay when silent"
abbrev pub nothing_sent : TrailerRecord → List ℕ → Effect
nothing_sent t response = effect t (Ok None) response
