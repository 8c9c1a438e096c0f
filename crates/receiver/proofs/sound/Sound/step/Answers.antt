-- `Sound::step` meets its contract: by the case of the judged frame.
use Rattle.std.proofs.Common.{refl, arith}
use Rattle.identifiers.proofs.LawsChoice.{taken, passed}
use Rattle.receiver.specs.Steps.{step_of}
use Rattle.receiver.proofs.LawsRules.{sound-open, open-bytes}
use Rattle.receiver.proofs.LawsGiven.{judged-so, single-gives, over-long-gives, first_gives}
use Rattle.receiver.proofs.sound.Sound.step.Goals as goal

pub invariant_of-self : goal.invariant_of-self
invariant_of-self c =
    let f = c.requires _ _ c.in-First.is in
    record { bytes = open-bytes _ 0 _ f.most (omega (arith, f.least)); rules = sound-open _ 0 _ f.least (omega (arith, f.least)) }

pub returns-then-not-functional : goal.returns-then-not-functional
returns-then-not-functional c =
    judged-so c.args.buffer.now c.args.frame.«data».now _ _ c.args.frame.stamp c.in-Single.is (single-gives _ _ _ _ _ _ _ _ (passed _ c.if-not-functional.true (cc)))

pub returns-else-not-functional : goal.returns-else-not-functional
returns-else-not-functional c =
    judged-so c.args.buffer.now c.args.frame.«data».now _ _ c.args.frame.stamp c.in-Single.is (single-gives _ _ _ _ _ _ _ _ (taken _ c.if-not-functional.false refl))

pub returns-in-First : goal.returns-in-First
returns-in-First c =
    judged-so c.args.buffer.now c.args.frame.«data».now _ _ c.args.frame.stamp c.in-First.is (rw (c.store.ensures, c.region.ensures.0) (first_gives _ _ _ _ _ _ _))

pub returns-in-OverLong : goal.returns-in-OverLong
returns-in-OverLong c =
    judged-so c.args.buffer.now c.args.frame.«data».now _ _ c.args.frame.stamp c.in-OverLong.is (rw c.close-in-OverLong.ensures (over-long-gives _ _ _ _ _ _))

pub returns-in-Consecutive : goal.returns-in-Consecutive
unfolding step_of
returns-in-Consecutive c =
    judged-so c.args.buffer.now c.args.frame.«data».now _ _ c.args.frame.stamp c.in-Consecutive.is c.follow.ensures
