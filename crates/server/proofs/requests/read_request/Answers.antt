-- `read_request` meets its contract: the first byte decides whose form is read.
use mathlib.Core.Path.{sym, ◌∙◌}
use native.Mathlib.Omega.{arith}
use Rattle.identifiers.specs.Choice.{pick}
use Rattle.server.specs.Requests.{service_of, request_by}
use Rattle.server.specs.Forms.{no_service, unknown_service}
use Rattle.server.proofs.LawsRequests.{read_at, reads-exactly}
use Rattle.server.proofs.requests.read_request.Goals as goal

pub returns-in-20 : goal.returns-in-20
unfolding request_by service_of pick
returns-in-20 c = c.form_of_14.ensures ∙ sym (read_at _ c.in-20.is)

pub returns-in-25 : goal.returns-in-25
unfolding request_by service_of pick
returns-in-25 c = c.form_of_19.ensures ∙ sym (read_at _ c.in-25.is)

pub returns-in-34 : goal.returns-in-34
unfolding request_by service_of pick
returns-in-34 c = c.form_of_22.ensures ∙ sym (read_at _ c.in-34.is)

pub returns-in-62 : goal.returns-in-62
unfolding request_by service_of pick
returns-in-62 c = c.form_of_3E.ensures ∙ sym (read_at _ c.in-62.is)

pub returns-in_default : goal.returns-in_default
returns-in_default c = sym ((reads-exactly _ _).1 (unknown_service (no_service (omega arith) (omega arith) (omega arith) (omega arith))))
