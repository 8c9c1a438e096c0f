-- `Sound::follow` meets its contract: 12, 9, 13 and 14 in their order, which write nothing, and else the frame is taken.
use Rattle.std.proofs.Common.{ℕ, ◌%◌, length, ap, ◌∙◌, add-one, arith, eq-eqb, refl}
use Rattle.identifiers.proofs.LawsChoice.{pick_true}
use Rattle.receiver.specs.Steps.{left_of, done_of, followed}
use Rattle.receiver.proofs.LawsRules.{open-facts}
use Rattle.receiver.proofs.LawsLentRules.{length-byte}
use Rattle.receiver.proofs.LawsFollowed.{followed-short, followed-wrong, followed-late, followed-taken}
use Rattle.receiver.proofs.LawsGiven.{leaving-gives, closing-gives, gives-as}
use Rattle.receiver.proofs.sound.Sound.follow.Goals as goal

pub returns-then-length-eq0 : goal.returns-then-length-eq0
unfolding followed
returns-then-length-eq0 c =
    gives-as c.args.buffer.now c.args.frame.«data».now (pick_true _ _ (eq-eqb _ _ c.if-length-eq0.true)) (leaving-gives _ _ _ _)

pub overflow_sub-left : goal.overflow_sub-left
overflow_sub-left c = let s = c.args.self.now in omega (arith, (open-facts s.reception s.rules c.if-length-eq0.false).1)

pub returns-then-frame-min : goal.returns-then-frame-min
returns-then-frame-min c =
    let a = c.args in
    let r = a.self.now.reception in
    let short = rw c.min.ensures at c.if-frame-min.true in
    gives-as a.buffer.now a.frame.«data».now (followed-short r.length r.taken r.last a.from a.number (length a.frame.«data».now) a.frame.stamp c.if-length-eq0.false short) (leaving-gives _ _ _ _)

pub overflow_add-taken : goal.overflow_add-taken
overflow_add-taken c = let s = c.args.self.now in record { fits = omega (arith, (open-facts s.reception s.rules c.if-length-eq0.false).1, length-byte s.reception s.bytes) }

pub returns-then-number-taken : goal.returns-then-number-taken
returns-then-number-taken c =
    let a = c.args in
    let r = a.self.now.reception in
    let enough = rw c.min.ensures at c.if-frame-min.false in
    let another = rw (add-one r.taken) at c.if-number-taken.true in
    rw c.close.ensures (gives-as a.buffer.now a.frame.«data».now (followed-wrong r.length r.taken r.last a.from a.number (length a.frame.«data».now) a.frame.stamp c.if-length-eq0.false enough another) (closing-gives _ _ _))

pub returns-then-gap-gt-LONGEST_GAP : goal.returns-then-gap-gt-LONGEST_GAP
returns-then-gap-gt-LONGEST_GAP c =
    let a = c.args in
    let r = a.self.now.reception in
    let enough = rw c.min.ensures at c.if-frame-min.false in
    let next = c.if-number-taken.false ∙ ap (λ (n : ℕ). n % 16) (add-one _) in
    let late = rw c.gap.ensures at c.if-gap-gt-LONGEST_GAP.true in
    rw c.close-then-gap-gt-LONGEST_GAP.ensures
    (gives-as a.buffer.now a.frame.«data».now (followed-late r.length r.taken r.last a.from a.number (length a.frame.«data».now) a.frame.stamp c.if-length-eq0.false enough next (omega arith)) (closing-gives _ _ _))

pub take-requires : goal.take-requires
unfolding left_of done_of
take-requires c = (c.if-length-eq0.false, refl, rw c.min.ensures at c.if-frame-min.false)

pub returns : goal.returns
returns c =
    let a = c.args in
    let r = a.self.now.reception in
    let enough = rw c.min.ensures at c.if-frame-min.false in
    let next = c.if-number-taken.false ∙ ap (λ (n : ℕ). n % 16) (add-one _) in
    let in_time = rw c.gap.ensures at c.if-gap-gt-LONGEST_GAP.false in
    gives-as a.buffer.now a.frame.«data».now (followed-taken r.length r.taken r.last a.from a.number (length a.frame.«data».now) a.frame.stamp c.if-length-eq0.false enough next in_time) c.take.ensures
