-- `Way::piece` meets its contract: one single frame, or a first frame, or the consecutive frame that begins where the one before ends.
use Rattle.std.proofs.Common.{◌∙◌, arith, le-leb, eq-eqb, ne_eqb, ◌+◌, ◌*◌, ◌-◌}
use borrow.Author.Tests.{lt-leb}
use Rattle.identifiers.proofs.LawsChoice.{taken, passed}
use Rattle.receiver.specs.Cuts.{piece_of}
use Rattle.receiver.proofs.LawsPieces.{frames-range, frames-start, rest_short, rest_whole}
use Rattle.receiver.proofs.cutter.Way.piece.Goals as goal

pub returns-then-total-le6 : goal.returns-then-total-le6
unfolding piece_of
returns-then-total-le6 c = taken _ (le-leb _ _ c.if-total-le6.true) c.frame.ensures

pub overflow_cast-total-then-number-eq0 : goal.overflow_cast-total-then-number-eq0
overflow_cast-total-then-number-eq0 c = record { fits = omega (arith, frames-range _ _ c.requires) }

pub returns-then-number-eq0 : goal.returns-then-number-eq0
unfolding piece_of
returns-then-number-eq0 c =
    passed _ (lt-leb _ _ c.if-total-le6.false) (taken _ (eq-eqb _ _ c.if-number-eq0.true) c.frame-then-number-eq0.ensures)

pub overflow_mul-start : goal.overflow_mul-start
overflow_mul-start c = record { fits = omega (arith, (frames-start _ _ c.requires c.if-total-le6.false).1) }

pub overflow_add-start : goal.overflow_add-start
overflow_add-start c = record { fits = omega (arith, (frames-start _ _ c.requires c.if-total-le6.false).1) }

pub slice_bounds-rest-count : goal.slice_bounds-rest-count
slice_bounds-rest-count c = omega (arith, (frames-start _ _ c.requires c.if-total-le6.false).0)

pub slice_bounds-rest-start : goal.slice_bounds-rest-start
slice_bounds-rest-start c = omega (arith, (frames-start _ _ c.requires c.if-total-le6.false).0)

pub returns-then-rest-lt6 : goal.returns-then-rest-lt6
unfolding piece_of
returns-then-rest-lt6 c =
    passed _ (lt-leb _ _ c.if-total-le6.false) (passed _ (ne_eqb _ _ c.if-number-eq0.false)
    (c.frame-then-rest-lt6.ensures ∙ rw (rest_short c.args.message.now (5 + 6 * (c.args.number - 1)) (omega (arith, c.if-rest-lt6.true)))))

pub returns : goal.returns
unfolding piece_of
returns c =
    passed _ (lt-leb _ _ c.if-total-le6.false) (passed _ (ne_eqb _ _ c.if-number-eq0.false)
    (c.frame-2.ensures ∙ rw (rest_whole c.args.message.now (5 + 6 * (c.args.number - 1)))))
