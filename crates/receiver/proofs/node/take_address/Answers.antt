-- `take_address` meets its contract: each return is at one of the laws of taking an address.
use Rattle.std.proofs.Common.{sym, ◌∙◌, arith}
use Rattle.std.proofs.lemmas.Result.{err_from_is_err_and}
use Rattle.readings.proofs.LawsPositions.{after-15}
use Rattle.receiver.specs.Lent.{node_in}
use Rattle.receiver.proofs.LawsNodes.{address-15, same_position, new-position}
use Rattle.receiver.proofs.LawsRow.{numbers-back}
use Rattle.receiver.proofs.LawsLentRules.{lent-sound, unit-byte}
use Rattle.receiver.proofs.LawsLent.{lent-taken, lent-address-1, left_so, done-so}
use Rattle.receiver.proofs.node.take_address.Goals as goal

pub returns-then-not-is_sound : goal.returns-then-not-is_sound
returns-then-not-is_sound c = left_so _ _ _ (lent-address-1 _ _ (sym c.is_sound.ensures ∙ c.if-not-is_sound.true))

-- ---- behind 1: the node keeps its rules
pub returns-in_err-after : goal.returns-in_err-after
returns-in_err-after c =
    let sound = sym c.is_sound.ensures ∙ c.if-not-is_sound.false in
    let p = err_from_is_err_and c.from_residual.result c.from_residual.ensures.1 in
    let e = sym c.after.ensures ∙ c.in_err-after.was in
    rw (p.1, p.2, after-15 c.args.source _ e) (left_so _ _ _ (lent-taken _ _ sound ∙ address-15 _ _ (lent-sound _ sound) _ e))

-- ---- behind 15: there is a position to take
pub returns-then-own-node : goal.returns-then-own-node
unfolding node_in
returns-then-own-node c =
    let numbers = c.args.node.now in
    let sound = sym c.is_sound.ensures ∙ c.if-not-is_sound.false in
    let after = sym c.after.ensures ∙ c.in_ok-after.was in
    let another = rw c.place-own.ensures at c.if-own-node.true in
    done-so numbers _ (lent-taken _ _ sound ∙ new-position (node_in numbers) _ (lent-sound _ sound) _ after another)
    (rw c.place-own.ensures at c.put_fresh.ensures)

pub returns-else-own-node : goal.returns-else-own-node
unfolding node_in
returns-else-own-node c =
    let numbers = c.args.node.now in
    let sound = sym c.is_sound.ensures ∙ c.if-not-is_sound.false in
    let after = sym c.after.ensures ∙ c.in_ok-after.was in
    let same = sym c.place-own.ensures ∙ c.if-own-node.false in
    done-so numbers _ (lent-taken _ _ sound ∙ same_position (node_in numbers) _ (lent-sound _ sound) _ after same)
    (sym (numbers-back numbers (omega arith)))

pub overflow_cast-unit : goal.overflow_cast-unit
unfolding node_in
overflow_cast-unit c = record { fits = unit-byte (node_in c.args.node.now) (sym c.is_sound.ensures ∙ c.if-not-is_sound.false) }
