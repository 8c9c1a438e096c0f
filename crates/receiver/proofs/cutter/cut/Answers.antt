-- `cut` meets its contract: by whether there is a way, and whether the message has so many frames.
use Rattle.std.proofs.Common.{sym, ◌∙◌, refl, le-leb}
use borrow.Author.Tests.{lt-leb}
use Rattle.std.proofs.lemmas.Result.{err_from_is_err_and}
use Rattle.identifiers.proofs.LawsChoice.{taken, passed, right-holds, right-decides}
use Rattle.receiver.specs.Cuts.{cut_of, no_frame}
use Rattle.receiver.proofs.LawsPieces.{way-so, way_none}
use Rattle.receiver.proofs.cutter.cut.Goals as goal

pub returns-in_err-way : goal.returns-in_err-way
unfolding cut_of
returns-in_err-way c =
    let p = err_from_is_err_and c.from_residual.result c.from_residual.ensures.1 in
    let n = way_none c.args.from c.args.to c.args.unit (sym c.between.ensures ∙ c.in_err-way.was) in
    rw (p.1, p.2) (n.0 ∙ sym (n.1 _ _))

pub returns-then-frame_count-number : goal.returns-then-frame_count-number
unfolding cut_of no_frame
returns-then-frame_count-number c = taken _ (sym (right-holds _ (le-leb _ _ (rw c.frame_count.ensures at c.if-frame_count-number.true)))) refl

pub returns : goal.returns
unfolding cut_of
returns c =
    let s = way-so c.args.from c.args.to c.args.unit (sym c.between.ensures ∙ c.in_ok-way.was) in
    let more = rw c.frame_count.ensures at c.if-frame_count-number.false in
    passed _ (sym (right-decides s.0 (sym (lt-leb _ _ more)))) (c.piece.ensures ∙ rw s.1 (sym (s.2 _)))
