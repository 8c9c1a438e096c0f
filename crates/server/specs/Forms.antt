-- Which bytes are which request, in plain numbers: document 01's forms, and the checks that fail (document 01, "Server").
use Rattle.std.specs.Prelude.{◌≡◌, List, ◌≢◌, ℕ, ◌+◌, ◌*◌, ◌%◌, ◌^◌, ◌≤◌, ◌<◌, leb, get_or, length, Result, Ok, Err}
use Rattle.server.specs.declared.requests.Request.{Request}
use Rattle.server.specs.declared.requests.Unread.{Unread}

-- 11: "service unknown 11"
pub data UnknownService (q : List ℕ) : Type 0 where
  no_service : get_or q 0 0 ≢ 0x14 → get_or q 0 0 ≢ 0x19 → get_or q 0 0 ≢ 0x22 → get_or q 0 0 ≢ 0x3E → UnknownService q

-- the first 13: "19 and 3E shorter than 2, 13"
pub data TooShort (q : List ℕ) : Type 0 where
  short_19 : get_or q 0 0 ≡ 0x19 → length q < 2 → TooShort q
  short_3e : get_or q 0 0 ≡ 0x3E → length q < 2 → TooShort q

-- 12: "sub-function (low seven bits) unknown 12"
pub data UnknownSubFunction (q : List ℕ) : Type 0 where
  unknown_19 : get_or q 0 0 ≡ 0x19 → 2 ≤ length q → get_or q 1 0 % 2 ^ 7 ≢ 0x01 → get_or q 1 0 % 2 ^ 7 ≢ 0x02 → get_or q 1 0 % 2 ^ 7 ≢ 0x0A → UnknownSubFunction q
  unknown_3e : get_or q 0 0 ≡ 0x3E → 2 ≤ length q → get_or q 1 0 % 2 ^ 7 ≢ 0x00 → UnknownSubFunction q

-- the second 13, "wrong length 13": "14 and a 3-byte group, length 4", "19 01 mask, length 3", "19 02 mask, length 3", "19 0A, length 2",
-- "22, odd length 3 or more", "3E 00, length 2"
pub data WrongLength (q : List ℕ) : Type 0 where
  not_4 : get_or q 0 0 ≡ 0x14 → length q ≢ 4 → WrongLength q
  not_3_of_01 : get_or q 0 0 ≡ 0x19 → 2 ≤ length q → get_or q 1 0 % 2 ^ 7 ≡ 0x01 → length q ≢ 3 → WrongLength q
  not_3_of_02 : get_or q 0 0 ≡ 0x19 → 2 ≤ length q → get_or q 1 0 % 2 ^ 7 ≡ 0x02 → length q ≢ 3 → WrongLength q
  not_2_of_0a : get_or q 0 0 ≡ 0x19 → 2 ≤ length q → get_or q 1 0 % 2 ^ 7 ≡ 0x0A → length q ≢ 2 → WrongLength q
  under_3 : get_or q 0 0 ≡ 0x22 → length q < 3 → WrongLength q
  even : get_or q 0 0 ≡ 0x22 → length q % 2 ≡ 0 → WrongLength q
  not_2_of_00 : get_or q 0 0 ≡ 0x3E → 2 ≤ length q → get_or q 1 0 % 2 ^ 7 ≡ 0x00 → length q ≢ 2 → WrongLength q

-- the checks that fail, then each request with its numbers, high byte first, and whether bit 7 of its sub-function is set
pub data Reads (q : List ℕ) : Result Request Unread → Type 0 where
  unknown_service : UnknownService q → Reads q (Err Unread.UnknownService)
  too_short : TooShort q → Reads q (Err Unread.TooShort)
  unknown_sub_function : UnknownSubFunction q → Reads q (Err Unread.UnknownSubFunction)
  wrong_length : WrongLength q → Reads q (Err Unread.WrongLength)
  clear_group : get_or q 0 0 ≡ 0x14 → length q ≡ 4 → Reads q (Ok (Request.ClearGroup (get_or q 1 0 * 65536 + get_or q 2 0 * 256 + get_or q 3 0)))
  count_by_mask : get_or q 0 0 ≡ 0x19 → get_or q 1 0 % 2 ^ 7 ≡ 0x01 → length q ≡ 3 → Reads q (Ok (Request.CountByMask (leb (2 ^ 7) (get_or q 1 0)) (get_or q 2 0)))
  list_by_mask : get_or q 0 0 ≡ 0x19 → get_or q 1 0 % 2 ^ 7 ≡ 0x02 → length q ≡ 3 → Reads q (Ok (Request.ListByMask (leb (2 ^ 7) (get_or q 1 0)) (get_or q 2 0)))
  list_all : get_or q 0 0 ≡ 0x19 → get_or q 1 0 % 2 ^ 7 ≡ 0x0A → length q ≡ 2 → Reads q (Ok (Request.ListAll (leb (2 ^ 7) (get_or q 1 0))))
  read_data : get_or q 0 0 ≡ 0x22 → 3 ≤ length q → length q % 2 ≡ 1 → Reads q (Ok Request.ReadData)
  tester_present : get_or q 0 0 ≡ 0x3E → get_or q 1 0 % 2 ^ 7 ≡ 0x00 → length q ≡ 2 → Reads q (Ok (Request.TesterPresent (leb (2 ^ 7) (get_or q 1 0))))
