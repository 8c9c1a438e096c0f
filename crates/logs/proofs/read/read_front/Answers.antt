-- `read_front` meets its contract: a sound line ends where its parts end, any other at the newline that is found, and else it has only begun.
use mathlib.Core.Path.{◌≡◌, sym, ◌∙◌}
use mathlib.Core.Bool.{false}
use Rattle.logs.proofs.LawsFronts.{sound_line, not_sound, front-test, read-sound, read-malformed, read-begun}
use Rattle.logs.proofs.read.read_front.Goals as goal
use Rattle.logs.proofs.read.read_front.Goals.{in-Some+else-byte_at-end, in_default}

pub returns-then-byte_at-end : goal.returns-then-byte_at-end
returns-then-byte_at-end c = read-sound c.args.text.now c.in-Some.ensures c.byte_at.ensures c.if-byte_at-end.true

pub returns-in_err-stop : goal.returns-in_err-stop
returns-in_err-stop c = c.from_residual.ensures ∙ read-begun c.args.text.now c.in_err-stop.ensures

pub returns : goal.returns
returns c =
    let unsound : sound_line c.args.text.now ≡ false =
    elim c.match-scan.branch [
      | in-Some+else-byte_at-end w ↦ sym (front-test c.args.text.now w.in-Some.ensures w.byte_at.ensures) ∙ w.if-byte_at-end.false
      | in_default w ↦ not_sound c.args.text.now w.in_default.ensures
    ] in
    read-malformed c.args.text.now unsound c.in_ok-stop.ensures
