-- Which answers are not sent (document 01, "Server").
use Rattle.std.specs.Prelude.{Bool, false, ℕ, eqb, Result, Ok, Err}
use Rattle.identifiers.specs.Choice.{pick, both, either}
use Rattle.server.specs.declared.requests.Request.{Request}
use Rattle.server.specs.declared.requests.Unread.{Unread}

-- "Bit 7 of a sub-function (19, 3E) silences a positive answer."
unfoldable pub silenced : Result Request Unread → Bool
silenced (Err why) = false
silenced (Ok (Request.ClearGroup group)) = false
silenced (Ok (Request.CountByMask silent mask)) = silent
silenced (Ok (Request.ListByMask silent mask)) = silent
silenced (Ok (Request.ListAll silent)) = silent
silenced (Ok Request.ReadData) = false
silenced (Ok (Request.TesterPresent silent)) = silent

-- "A functional request is silent on 11, 12 and 31."
unfoldable pub quiet_code : ℕ → Bool
quiet_code code = either (either (eqb code 0x11) (eqb code 0x12)) (eqb code 0x31)

-- is nothing sent, for a request with that negative code, 0 where the answer is positive
unfoldable pub silent_on : Result Request Unread → Bool → ℕ → Bool
silent_on asked functional code = pick (eqb code 0) (silenced asked) (both functional (quiet_code code))
