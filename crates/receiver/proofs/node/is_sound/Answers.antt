-- `is_sound` meets its contract: the tests are those of the definition, in their order.
use Rattle.std.proofs.Common.{◌≡◌, ◌&&◌, Bool, true, false, leb, sym, ◌∙◌}
use Rattle.std.specs.List.{list_all, range_with_len}
use Rattle.receiver.specs.Lent.{node_in, keeps}
use Rattle.receiver.proofs.LawsLentRules.{as-asked}
use Rattle.receiver.proofs.node.is_sound.Goals as goal
use Rattle.receiver.proofs.node.is_sound.Goals.{then-own, else-own}

-- the last test decides where the tests before it hold, and nothing is asked where one fails
both-hold : (t x : Bool) {v : Bool} → v ≡ t → v ≡ true → x ≡ (t && x)
both-hold t x e h = rw (sym e, h)

one-fails : (t x : Bool) {v : Bool} → v ≡ t → v ≡ false → v ≡ (t && x)
one-fails t x e h = rw (sym e, h)

pub returns-then-node-le-LARGEST_UNIT : goal.returns-then-node-le-LARGEST_UNIT
unfolding node_in
returns-then-node-le-LARGEST_UNIT c =
    let n = node_in c.args.node.now in
    let tests : Bool = (leb 1 n.own && leb n.own 5) && leb n.unit 255 in
    let asked : c.if-own.value ≡ tests =
    elim c.if-own.branch [ then-own w ↦ rw (w.value-is, w.if-own.true) | else-own w ↦ rw (w.value-is, w.if-own.false) ] in
    c.receptions_are_sound.ensures
    ∙ both-hold tests _ asked c.if-node-le-LARGEST_UNIT.true
    ∙ as-asked n

pub returns-else-node-le-LARGEST_UNIT : goal.returns-else-node-le-LARGEST_UNIT
unfolding node_in
returns-else-node-le-LARGEST_UNIT c =
    let n = node_in c.args.node.now in
    let tests : Bool = (leb 1 n.own && leb n.own 5) && leb n.unit 255 in
    let asked : c.if-own.value ≡ tests =
    elim c.if-own.branch [ then-own w ↦ rw (w.value-is, w.if-own.true) | else-own w ↦ rw (w.value-is, w.if-own.false) ] in
    one-fails tests (list_all (keeps n) (range_with_len 0 6)) asked c.if-node-le-LARGEST_UNIT.false
    ∙ as-asked n
