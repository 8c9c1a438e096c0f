-- `accept` meets its contract: the form decides, and then the content.
use mathlib.Core.Path.{◌≡◌, refl, sym, ap, ◌∙◌}
use mathlib.Core.List.{List}
use Prim.Native.Nat.{ℕ}
use Rattle.std.specs.Prelude.{Result, Err}
use Rattle.std.proofs.lemmas.Result.{err_from_is_err_and}
use Rattle.server.specs.Codes.{code_of_unread, code_number}
use Rattle.server.specs.Server.{negative_of}
use Rattle.server.specs.declared.trailer.TrailerRecord.{TrailerRecord}
use Rattle.server.specs.declared.requests.Request.{Request}
use Rattle.server.specs.declared.requests.Unread.{Unread}
use Rattle.server.proofs.sound.Sound.accept.Goals as goal

-- the code of a request whose form is wrong
form : (t : TrailerRecord) (request : List ℕ) (why : Unread) → code_number (code_of_unread why) ≡ negative_of t (Err why) request
unfolding negative_of
form t request Unread.UnknownService = refl
form t request Unread.TooShort = refl
form t request Unread.UnknownSubFunction = refl
form t request Unread.WrongLength = refl

pub returns-in_err-asked : goal.returns-in_err-asked
returns-in_err-asked c =
    let t = c.args.self.now.record.now in
    let q = c.args.request.bytes.now in
    let p = err_from_is_err_and c.from_residual.result c.from_residual.ensures.1 in
    rw (p.1, p.2) (form t q _ ∙ ap (λ (r : Result Request Unread). negative_of t r q) (sym c.in_err-asked.was ∙ c.read_request.ensures))
