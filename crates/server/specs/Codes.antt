-- The number of each negative code (document 01, "Server"), that of an answer, 0 where it is positive, and what a request comes to.
use Rattle.std.specs.Prelude.{◌≡◌, List, ℕ, Result, Ok, Err}
use Rattle.server.specs.Requests.{request_of}
use Rattle.server.specs.Server.{negative_of}
use Rattle.server.specs.declared.trailer.TrailerRecord.{TrailerRecord}
use Rattle.server.specs.declared.requests.Request.{Request}
use Rattle.server.specs.declared.requests.Unread.{Unread}
use Rattle.server.specs.declared.codes.NegativeCode.{NegativeCode}
use Rattle.server.specs.declared.codes.NegativeCode.TheVariants.{ServiceNotSupported, SubFunctionNotSupported, IncorrectLength, ResponseTooLong, RequestOutOfRange}

-- the code of a request whose form is wrong
abbrev pub code_of_unread : Unread → NegativeCode
code_of_unread Unread.UnknownService = ServiceNotSupported
code_of_unread Unread.TooShort = IncorrectLength
code_of_unread Unread.UnknownSubFunction = SubFunctionNotSupported
code_of_unread Unread.WrongLength = IncorrectLength

abbrev pub code_number : NegativeCode → ℕ
code_number ServiceNotSupported = 0x11
code_number SubFunctionNotSupported = 0x12
code_number IncorrectLength = 0x13
code_number ResponseTooLong = 0x14
code_number RequestOutOfRange = 0x31

abbrev pub code_of : {A : Type 0} → Result A NegativeCode → ℕ
code_of (Ok a) = 0
code_of (Err code) = code_number code

-- what a request asks where it is answered positively, else its negative code
abbrev pub Accepts : TrailerRecord → List ℕ → Result Request NegativeCode → Type 0
Accepts t request (Ok asked) = (request_of request ≡ Ok asked) × (negative_of t (Ok asked) request ≡ 0)
Accepts t request (Err code) = code_number code ≡ negative_of t (request_of request) request
