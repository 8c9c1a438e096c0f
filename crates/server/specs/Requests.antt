-- A request is read once: what it asks, with its numbers, or why it is unread (document 01, "Server").
use Rattle.std.specs.Prelude.{Bool, List, ℕ, ◌+◌, ◌*◌, ◌%◌, eqb, ltb, leb, get_or, length, Result, Ok, Err}
use Rattle.identifiers.specs.Choice.{pick, unless, both}
use Rattle.server.specs.declared.requests.Request.{Request}
use Rattle.server.specs.declared.requests.Unread.{Unread}

unfoldable pub service_of : List ℕ → ℕ
service_of request = get_or request 0 0

-- "sub-function (low seven bits)"
unfoldable pub sub_function_of : List ℕ → ℕ
sub_function_of request = get_or request 1 0 % 128

-- "Bit 7 of a sub-function (19, 3E)"
unfoldable pub silencing : List ℕ → Bool
silencing request = leb 128 (get_or request 1 0)

-- the mask of 19 01 and 19 02
unfoldable pub mask_of : List ℕ → ℕ
mask_of request = get_or request 2 0

-- "a 3-byte group"
unfoldable pub group_of : List ℕ → ℕ
group_of request = get_or request 1 0 * 65536 + get_or request 2 0 * 256 + get_or request 3 0

-- "wrong length 13"
unfoldable pub sized : Bool → Request → Result Request Unread
sized right request = unless right (Err Unread.WrongLength) (Ok request)

-- "14 and a 3-byte group, length 4"
unfoldable pub form_of_14 : List ℕ → Result Request Unread
form_of_14 request = sized (eqb (length request) 4) (Request.ClearGroup (group_of request))

-- "19 .. shorter than 2, 13; sub-function (low seven bits) unknown 12": "19 01 mask, length 3", "19 02 mask, length 3", "19 0A, length 2"
unfoldable pub form_of_19 : List ℕ → Result Request Unread
form_of_19 request =
    pick (ltb (length request) 2) (Err Unread.TooShort)
    (pick (eqb (sub_function_of request) 0x01) (sized (eqb (length request) 3) (Request.CountByMask (silencing request) (mask_of request)))
    (pick (eqb (sub_function_of request) 0x02) (sized (eqb (length request) 3) (Request.ListByMask (silencing request) (mask_of request)))
    (pick (eqb (sub_function_of request) 0x0A) (sized (eqb (length request) 2) (Request.ListAll (silencing request))) (Err Unread.UnknownSubFunction))))

-- "22, odd length 3 or more"
unfoldable pub form_of_22 : List ℕ → Result Request Unread
form_of_22 request = sized (both (leb 3 (length request)) (eqb (length request % 2) 1)) Request.ReadData

-- ".. 3E shorter than 2, 13; sub-function (low seven bits) unknown 12": "3E 00, length 2"
unfoldable pub form_of_3e : List ℕ → Result Request Unread
form_of_3e request =
    pick (ltb (length request) 2) (Err Unread.TooShort)
    (pick (eqb (sub_function_of request) 0x00) (sized (eqb (length request) 2) (Request.TesterPresent (silencing request))) (Err Unread.UnknownSubFunction))

-- "service unknown 11"; the others each by its own form
unfoldable pub request_by : ℕ → List ℕ → Result Request Unread
request_by service request =
    pick (eqb service 0x14) (form_of_14 request)
    (pick (eqb service 0x19) (form_of_19 request)
    (pick (eqb service 0x22) (form_of_22 request)
    (pick (eqb service 0x3E) (form_of_3e request)
    (Err Unread.UnknownService))))

unfoldable pub request_of : List ℕ → Result Request Unread
request_of request = request_by (service_of request) request
