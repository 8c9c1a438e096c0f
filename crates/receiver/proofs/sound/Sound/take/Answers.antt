-- `Sound::take` meets its contract: six bytes where more are left, and else the rest, which ends the train.
use Rattle.std.proofs.Common.{◌≡◌, ℕ, ◌+◌, ◌-◌, ◌*◌, ◌<◌, ◌≤◌, min, true, ◌≢◌, arith, length-take}
use Rattle.receiver.specs.declared.reception.Reception.{Reception}
use Rattle.receiver.specs.Receptions.{sound_reception}
use Rattle.receiver.specs.Steps.{left_of, done_of}
use Rattle.receiver.specs.Lent.{in_bytes}
use Rattle.receiver.proofs.LawsRules.{open-facts, sound-open, open-bytes}
use Rattle.receiver.proofs.LawsLentRules.{length-byte}
use Rattle.receiver.proofs.LawsGiven.{taken-gives, last-gives}
use Rattle.receiver.proofs.sound.Sound.take.Goals as goal

-- what an open reception that keeps its rules has
record Open (r : Reception) (left bytes : ℕ) : Type 0 where
  least : 7 ≤ r.length
  most : r.length ≤ 255
  under : 5 + 6 * r.taken < r.length
  left-is : left ≡ r.length - (5 + 6 * r.taken)
  enough : 2 + min 6 left ≤ bytes

is-open : (r : Reception) (left bytes : ℕ) → in_bytes r ≡ true → sound_reception r ≡ true → (r.length ≢ 0) × (left ≡ left_of r) × (2 + min 6 left ≤ bytes) → Open r left bytes
unfolding left_of done_of
is-open r left bytes b s q = let o = open-facts r s q.0 in record { least = o.0; most = length-byte r b; under = o.1; left-is = q.1; enough = q.2 }

pub overflow_sub-at : goal.overflow_sub-at
overflow_sub-at c = let s = c.args.self.now in let o = is-open s.reception _ _ s.bytes s.rules c.requires in omega arith

pub overflow_add-self : goal.overflow_add-self
overflow_add-self c = let s = c.args.self.now in let o = is-open s.reception _ _ s.bytes s.rules c.requires in record { fits = omega arith }

pub slice_bounds-store-end-then-left-gt6 : goal.slice_bounds-store-end-then-left-gt6
slice_bounds-store-end-then-left-gt6 c = let s = c.args.self.now in let o = is-open s.reception _ _ s.bytes s.rules c.requires in omega arith

pub store-requires : goal.store-requires
store-requires c = let s = c.args.self.now in let o = is-open s.reception _ _ s.bytes s.rules c.requires in simp (length-take) (omega arith)

pub invariant_of-self : goal.invariant_of-self
invariant_of-self c =
    let s = c.args.self.now in
    let o = is-open s.reception _ _ s.bytes s.rules c.requires in
    record { bytes = open-bytes _ _ _ o.most (omega arith); rules = sound-open _ _ _ o.least (omega arith) }

pub returns-then-left-gt6 : goal.returns-then-left-gt6
returns-then-left-gt6 c =
    let s = c.args.self.now in
    let o = is-open s.reception _ _ s.bytes s.rules c.requires in
    taken-gives c.args.buffer.now c.args.frame.«data».now s.reception c.args.from c.args.frame.stamp (omega (arith, c.region.ensures.0)) (omega arith) c.store.ensures

pub slice_bounds-store_each-end : goal.slice_bounds-store_each-end
slice_bounds-store_each-end c = let s = c.args.self.now in let o = is-open s.reception _ _ s.bytes s.rules c.requires in omega arith

pub store_each-requires : goal.store_each-requires
store_each-requires c = let s = c.args.self.now in let o = is-open s.reception _ _ s.bytes s.rules c.requires in simp (length-take) (omega arith)

pub overflow_cast-result : goal.overflow_cast-result
overflow_cast-result c = let s = c.args.self.now in record { fits = omega (arith, length-byte s.reception s.bytes) }

pub returns : goal.returns
returns c =
    let s = c.args.self.now in
    let o = is-open s.reception _ _ s.bytes s.rules c.requires in
    let e : 2 + c.args.left - 2 ≡ c.args.left = omega arith in
    let last : s.reception.length - (5 + 6 * s.reception.taken) ≤ 6 = omega arith in
    rw c.close.ensures (last-gives c.args.buffer.now c.args.frame.«data».now s.reception c.args.from c.args.frame.stamp (omega (arith, c.region.ensures.0)) last (rw (e, o.left-is) at c.store_each.ensures))
