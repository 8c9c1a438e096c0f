-- `received` meets its contract: 1 for the buffer and the node, and all stays; then what the judged frame does to its vehicle's reception and to the buffer.
use Rattle.std.proofs.Common.{◌≡◌, ℕ, ◌≢◌, Ok, length, sym, ap, ◌∙◌, arith}
use Rattle.std.proofs.lemmas.Result.{err_from_is_err_and}
use Rattle.identifiers.proofs.LawsOptions.{none-refused, some-given}
use Rattle.readings.specs.declared.position.Position.{Position}
use Rattle.receiver.specs.declared.frame.Judged.{Judged}
use Rattle.receiver.specs.declared.frame.Judged.TheVariants.{First}
use Rattle.receiver.specs.Lent.{node_in}
use Rattle.receiver.specs.Names.{other_room}
use Rattle.receiver.proofs.LawsFrames.{fair}
use Rattle.receiver.proofs.LawsRules.{sound-at}
use Rattle.receiver.proofs.LawsReceived.{own_is}
use Rattle.receiver.proofs.LawsBroken.{no_own}
use Rattle.receiver.proofs.LawsLentRules.{lent-bytes, lent-sound, own-byte, unit-byte, bytes-at}
use Rattle.receiver.proofs.LawsLent.{rules-broken, refused-so, refused-judged, judged-as}
use Rattle.receiver.proofs.receiving.received.Goals as goal

pub returns-in_default : goal.returns-in_default
returns-in_default c =
    let a = c.args in
    let other : length a.buffer.now ≢ 1536 = rw c.in_default.is at c.as_mut_array.ensures.cases in
    refused-so a.node.now a.buffer.now a.frame.identifier a.frame.«data».now a.frame.stamp (omega arith) (λ b. no_own (node_in a.node.now) a.buffer.now (other_room other))

pub returns-then-not-is_sound : goal.returns-then-not-is_sound
returns-then-not-is_sound c =
    let a = c.args in
    rw c.in-Some.ensures.cases.same (refused-so a.node.now a.buffer.now a.frame.identifier a.frame.«data».now a.frame.stamp (omega arith)
    (rules-broken (node_in a.node.now) a.buffer.now (sym c.is_sound.ensures ∙ c.if-not-is_sound.true)))

-- ---- behind the tests of the buffer's length and of the node
pub overflow_cast-node : goal.overflow_cast-node
unfolding node_in
overflow_cast-node c = record { fits = own-byte (node_in c.args.node.now) (sym c.is_sound.ensures ∙ c.if-not-is_sound.false) }

pub overflow_cast-unit : goal.overflow_cast-unit
unfolding node_in
overflow_cast-unit c = record { fits = unit-byte (node_in c.args.node.now) (sym c.is_sound.ensures ∙ c.if-not-is_sound.false) }

pub returns-in_err-position : goal.returns-in_err-position
unfolding node_in
returns-in_err-position c =
    let a = c.args in
    let sound = sym c.is_sound.ensures ∙ c.if-not-is_sound.false in
    let p = err_from_is_err_and c.from_residual.result c.from_residual.ensures.1 in
    let n = none-refused _ _ _ (sym c.ok_or.ensures.value ∙ c.in_err-position.was) in
    let none = sym c.trailer.ensures ∙ n.0 in
    rw (p.1, p.2, n.1, c.in-Some.ensures.cases.same) (refused-so a.node.now a.buffer.now a.frame.identifier a.frame.«data».now a.frame.stamp (omega arith)
    (λ b. own_is (node_in a.node.now) _ (lent-sound _ sound) c.in-Some.ensures.cases.long ∙ none))

pub returns-in_err-judged : goal.returns-in_err-judged
unfolding node_in
returns-in_err-judged c =
    let a = c.args in
    let sound = sym c.is_sound.ensures ∙ c.if-not-is_sound.false in
    let p = err_from_is_err_and c.from_residual-in_err-judged.result c.from_residual-in_err-judged.ensures.1 in
    rw (p.1, p.2, c.in-Some.ensures.cases.same) (refused-judged a.node.now a.buffer.now a.frame.identifier a.frame.«data».now a.frame.stamp sound c.in-Some.ensures.cases.long _
    (sym c.trailer.ensures ∙ some-given _ _ _ (sym c.ok_or.ensures.value ∙ c.in_ok-position.was)) (omega arith) (sym c.judge.ensures ∙ c.in_err-judged.was))

pub invariant_of-sound : goal.invariant_of-sound
invariant_of-sound c =
    let node = node_in c.args.node.now in
    let sound = sym c.is_sound.ensures ∙ c.if-not-is_sound.false in
    let p = c.judged_place-p.result in
    let fits = c.judged_place-p.ensures.1 in
    record {
      bytes = rw c.reception_of.ensures (bytes-at node (lent-bytes _ sound) p fits);
      rules = rw c.reception_of.ensures (sound-at node p (lent-sound _ sound) fits);
    }

pub step-outcome-requires : goal.step-outcome-requires
step-outcome-requires c =
    λ (q : Position) (L : ℕ) (e : c.in_ok-judged.judged ≡ First q L). (fair _ _ _ _ (Ok (First q L)) (sym c.judge.ensures ∙ c.in_ok-judged.was ∙ ap (λ (j : Judged). Ok j) e)).1

pub returns : goal.returns
unfolding node_in
returns c =
    let a = c.args in
    let sound = sym c.is_sound.ensures ∙ c.if-not-is_sound.false in
    judged-as a.node.now a.buffer.now a.frame.identifier a.frame.«data».now a.frame.stamp sound c.in-Some.ensures.cases.long _
    (sym c.trailer.ensures ∙ some-given _ _ _ (sym c.ok_or.ensures.value ∙ c.in_ok-position.was))
    (sym c.judge.ensures ∙ c.in_ok-judged.was) c.judged_place-p.ensures.0 c.reception_of.ensures c.in-Some.ensures.cases.same c.step-outcome.ensures c.put_reception.ensures
