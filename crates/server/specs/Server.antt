-- The server: the negative code of a request, the bytes of its answer, what it changes, and what one request leaves behind (document 01, "Server").
-- A request stands in these definitions as it was read, with its bytes beside it: the identifiers that `22` asks stand there alone.
use Rattle.std.specs.Prelude.{Bool, true, false, not, List, [], ◌∷◌, ℕ, ◌+◌, eqb, ltb, length, Option, Some, None, Result, Ok, Err}
use Rattle.identifiers.specs.Choice.{pick, unless, either}
use Rattle.identifiers.specs.Bytes.{written}
use Rattle.identifiers.specs.Refusals.{refusal}
use Rattle.identifiers.specs.declared.refusal.Refusal.{Refusal}
use Rattle.server.specs.Trailer.{sound_record, with_statuses}
use Rattle.server.specs.Faults.{count_listed, two_bytes, report_of, group_held, cleared_of}
use Rattle.server.specs.DataIdentifiers.{answers_of}
use Rattle.server.specs.Requests.{service_of, request_of}
use Rattle.server.specs.Silence.{silent_on}
use Rattle.server.specs.declared.trailer.TrailerRecord.{TrailerRecord}
use Rattle.server.specs.declared.requests.Request.{Request}
use Rattle.server.specs.declared.requests.Unread.{Unread}

-- the content of a request: "Other groups 31"; "A report over 255 bytes is 14"; "No asked identifier is held: 31. Over 255 bytes: 14."; 0 for none of them
unfoldable pub content_of_14 : TrailerRecord → ℕ → ℕ
content_of_14 t group = unless (group_held t group) 0x31 0

unfoldable pub content_of_19 : TrailerRecord → Bool → ℕ → ℕ
content_of_19 t all mask = pick (ltb 255 (3 + length (report_of t all mask))) 0x14 0

unfoldable pub content_of_22 : TrailerRecord → List ℕ → ℕ
content_of_22 t request = pick (eqb (length (answers_of t request)) 0) 0x31 (pick (ltb 255 (1 + length (answers_of t request))) 0x14 0)

-- "Checks in order: service unknown 11; 19 and 3E shorter than 2, 13; sub-function (low seven bits) unknown 12; wrong length 13; content": the negative code, 0 where the answer is positive
unfoldable pub negative_of : TrailerRecord → Result Request Unread → List ℕ → ℕ
negative_of t (Err Unread.UnknownService) request = 0x11
negative_of t (Err Unread.TooShort) request = 0x13
negative_of t (Err Unread.UnknownSubFunction) request = 0x12
negative_of t (Err Unread.WrongLength) request = 0x13
negative_of t (Ok (Request.ClearGroup group)) request = content_of_14 t group
negative_of t (Ok (Request.CountByMask silent mask)) request = 0
negative_of t (Ok (Request.ListByMask silent mask)) request = content_of_19 t false mask
negative_of t (Ok (Request.ListAll silent)) request = content_of_19 t true 0
negative_of t (Ok Request.ReadData) request = content_of_22 t request
negative_of t (Ok (Request.TesterPresent silent)) request = 0

-- "Negative: `7F`, service, code."
unfoldable pub negative_bytes : ℕ → ℕ → List ℕ
negative_bytes service code = 0x7F ∷ service ∷ code ∷ []

-- "Answer `54`"; "`59 01`, availability, `03`, count in two bytes"; "`59 02`, availability, then code and status of each match"; "`59 0A` and all likewise"; "`62`, then .."; "`7E 00`"
unfoldable pub positive_of : TrailerRecord → Result Request Unread → List ℕ → List ℕ
positive_of t (Err why) request = []
positive_of t (Ok (Request.ClearGroup group)) request = 0x54 ∷ []
positive_of t (Ok (Request.CountByMask silent mask)) request = 0x59 ∷ 0x01 ∷ t.availability ∷ 0x03 ∷ two_bytes (count_listed t false mask)
positive_of t (Ok (Request.ListByMask silent mask)) request = 0x59 ∷ 0x02 ∷ t.availability ∷ report_of t false mask
positive_of t (Ok (Request.ListAll silent)) request = 0x59 ∷ 0x0A ∷ t.availability ∷ report_of t true 0
positive_of t (Ok Request.ReadData) request = 0x62 ∷ answers_of t request
positive_of t (Ok (Request.TesterPresent silent)) request = 0x7E ∷ 0x00 ∷ []

-- what a request that is answered positively leaves in the record
unfoldable pub changed_by : TrailerRecord → Result Request Unread → TrailerRecord
changed_by t (Err why) = t
changed_by t (Ok (Request.ClearGroup group)) = with_statuses t (cleared_of t group)
changed_by t (Ok (Request.CountByMask silent mask)) = t
changed_by t (Ok (Request.ListByMask silent mask)) = t
changed_by t (Ok (Request.ListAll silent)) = t
changed_by t (Ok Request.ReadData) = t
changed_by t (Ok (Request.TesterPresent silent)) = t

-- 17 "request of 0 or over 255, or response buffer not 255"
unfoldable pub wrong_lengths : ℕ → ℕ → Bool
wrong_lengths request response = either (either (eqb request 0) (ltb 255 request)) (not (eqb response 255))

-- what one request leaves behind: the record, the reply and the response buffer
pub record Effect : Type 0 where
  pub after : TrailerRecord
  pub reply : Result (Option ℕ) Refusal
  pub response : List ℕ

abbrev pub effect : TrailerRecord → Result (Option ℕ) Refusal → List ℕ → Effect
effect after reply response = record { after = after; reply = reply; response = response }

-- "those past the response stay, all stay when silent"
unfoldable pub answered : TrailerRecord → Result Request Unread → List ℕ → Bool → List ℕ → Effect
answered t asked request functional response =
    pick (silent_on asked functional (negative_of t asked request)) (effect t (Ok None) response)
    (unless (eqb (negative_of t asked request) 0) (effect t (Ok (Some 3)) (written response 0 (negative_bytes (service_of request) (negative_of t asked request))))
    (effect (changed_by t asked) (Ok (Some (length (positive_of t asked request)))) (written response 0 (positive_of t asked request))))

-- 1 "lent state breaks its rules", 17, and else as the request is read
unfoldable pub served_of : TrailerRecord → List ℕ → Bool → List ℕ → Effect
served_of t request functional response =
    unless (sound_record t) (effect t (Err (refusal 1)) response)
    (pick (wrong_lengths (length request) (length response)) (effect t (Err (refusal 17)) response) (answered t (request_of request) request functional response))
