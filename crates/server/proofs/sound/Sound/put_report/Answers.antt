-- `put_report` meets its contract: what is put so far is what the codes passed have to report.
use mathlib.Core.Path.{◌≡◌, sym, ap₂, ◌∙◌}
use mathlib.Core.List.{[], ◌∷◌}
use native.Mathlib.Omega.{arith}
use borrow.Author.Rules.{rules}
use lib.ListN.{length, length-append}
use Rattle.std.proofs.lemmas.Slice.Zip.{zip_turn, zip_end}
use Rattle.identifiers.proofs.LawsBelow.{list-none}
use Rattle.identifiers.proofs.LawsBytes.{puts_none, keeps-length, turn, turn-none}
use Rattle.server.specs.Faults.{code_and_status, reported, report_of}
use Rattle.server.proofs.LawsTrailer.{sound-has}
use Rattle.server.proofs.LawsHeld.{held-item}
use Rattle.server.proofs.LawsFaults.{reported-hit, reported-miss}
use Rattle.server.proofs.sound.Sound.put_report.Goals as goal

pub loop-code-init : goal.loop-code-init
loop-code-init c = (omega arith, rw (list-none _) (puts_none _ _))

pub put_code_and_status-at-requires : goal.put_code_and_status-at-requires
put_code_and_status-at-requires c =
    let z = zip_turn c.codes.result.now c.statuses.result.now _ c.into_iter-code-iterator.result c.loop-code.code-iterator c.next.new.self c.next.result (search rules) (search rules) c.loop-code.yielded_by (c.in-Some.code, c.in-Some.status) c.in-Some.is c.next.ensures.steps in
    omega (arith, z.0, c.codes.ensures.1, keeps-length c.loop-code.invariant.1, (sound-has _ c.args.self.now.sound).count)

pub loop-code-preserved-then-is_listed : goal.loop-code-preserved-then-is_listed
unfolding code_and_status
loop-code-preserved-then-is_listed c =
    let z = zip_turn c.codes.result.now c.statuses.result.now _ c.into_iter-code-iterator.result c.loop-code.code-iterator c.next.new.self c.next.result (search rules) (search rules) c.loop-code.yielded_by (c.in-Some.code, c.in-Some.status) c.in-Some.is c.next.ensures.steps in
    let more = length-append c.loop-code.yielded ((c.in-Some.code, c.in-Some.status) ∷ []) in
    let p = c.put_code_and_status-at.ensures in
    (omega (arith, p.ends, more), rw more (turn _ _ c.loop-code.invariant.1 (reported-hit _ _ _ _ (sym c.is_listed.ensures ∙ c.if-is_listed.true) ∙ ap₂ (reported c.args.all c.args.mask) (held-item c.args.self.now.record.now.codes c.codes.ensures z.0 z.2) (held-item c.args.self.now.record.now.statuses c.statuses.ensures z.1 z.3)) p))

pub loop-code-preserved : goal.loop-code-preserved
loop-code-preserved c =
    let z = zip_turn c.codes.result.now c.statuses.result.now _ c.into_iter-code-iterator.result c.loop-code.code-iterator c.next.new.self c.next.result (search rules) (search rules) c.loop-code.yielded_by (c.in-Some.code, c.in-Some.status) c.in-Some.is c.next.ensures.steps in
    let more = length-append c.loop-code.yielded ((c.in-Some.code, c.in-Some.status) ∷ []) in
    (omega (arith, more), rw more (turn-none _ _ c.loop-code.invariant.1 (sym (ap₂ (reported c.args.all c.args.mask) (held-item c.args.self.now.record.now.codes c.codes.ensures z.0 z.2) (held-item c.args.self.now.record.now.statuses c.statuses.ensures z.1 z.3)) ∙ reported-miss _ _ _ _ (sym c.is_listed.ensures ∙ c.if-is_listed.false))))

pub returns : goal.returns
unfolding report_of
returns c =
    let z = zip_end c.codes.result.now c.statuses.result.now _ c.into_iter-code-iterator.result c.loop-code.code-iterator c.next.new.self c.next.result (search rules) (search rules) c.loop-code.yielded_by c.in-None.is c.next.ensures.steps in
    let e : c.args.self.now.record.now.count ≡ length c.loop-code.yielded = omega (arith, z, c.codes.ensures.1, c.statuses.ensures.1) in
    rw e c.loop-code.invariant.1
