-- A node with one reception stored; a fresh node; taking an address, one law an outcome: 1, 15, the same position, a new one.
use Rattle.std.specs.Prelude.{Ok, Some, None, Err}
use Rattle.std.proofs.Common.{◌≡◌, ℕ, ◌<◌, ◌≤◌, true, false, ◌≢◌, ◌⊎◌, List, length, refl, ap, ◌∙◌, length-set, get_or-set_other, get_or-set_same, eq-eqb, ne_eqb}
use lib.ListN.{length-replicate, get_or-replicate}
use lib.Seq.{set-get_or}
use Rattle.identifiers.specs.Refusals.{refusal}
use Rattle.identifiers.specs.declared.refusal.Refusal.{Refusal}
use Rattle.identifiers.proofs.LawsChoice.{pick_true, pick-false}
use Rattle.readings.specs.Positions.{place_of, trailer_at, taken_after}
use Rattle.readings.specs.declared.position.Position.{Position}
use Rattle.readings.proofs.LawsPositions.{trailer-back, trailer-no, after-15}
use Rattle.receiver.specs.declared.reception.Reception.{Reception}
use Rattle.receiver.specs.Receptions.{closed}
use Rattle.receiver.specs.Nodes.{Node, reception_at, with_reception, sound_node, fresh_node, start_of, fresh_of, made_at, done, unchanged, taken_to, taken_by}

-- ---- one reception stored
module _ (n : Node) (p : ℕ) where
  -- the one that is there changes nothing
  pub put_back : with_reception n p (reception_at n p) ≡ n
  unfolding with_reception reception_at
  put_back = ap (λ (l : List Reception). record { own = n.own; unit = n.unit; receptions = l }) (set-get_or n.receptions p closed)

  module _ (r : Reception) where
    -- it is found at its place, every other stays, and so do the own position, the unit and how many there are
    pub reception-same : p < length n.receptions → reception_at (with_reception n p r) p ≡ r
    unfolding with_reception reception_at
    reception-same h = get_or-set_same n.receptions p r closed h

    pub reception-other : (q : ℕ) → q ≢ p → reception_at (with_reception n p r) q ≡ reception_at n q
    unfolding with_reception reception_at
    reception-other q h = get_or-set_other n.receptions p q r closed h

    pub own-stays : (with_reception n p r).own ≡ n.own
    unfolding with_reception
    own-stays = refl

    pub unit-stays : (with_reception n p r).unit ≡ n.unit
    unfolding with_reception
    unit-stays = refl

    pub count-stays : length (with_reception n p r).receptions ≡ length n.receptions
    unfolding with_reception
    count-stays = length-set n.receptions p r

-- ---- a fresh node: its own position and unit, and six receptions, all closed
module _ (own unit : ℕ) where
  pub fresh-own : (fresh_node own unit).own ≡ own
  unfolding fresh_node
  fresh-own = refl

  pub fresh-unit : (fresh_node own unit).unit ≡ unit
  unfolding fresh_node
  fresh-unit = refl

  pub fresh-six : length (fresh_node own unit).receptions ≡ 6
  unfolding fresh_node
  fresh-six = length-replicate 6 closed

  pub fresh-closed : (p : ℕ) → p < 6 → reception_at (fresh_node own unit) p ≡ closed
  unfolding reception_at fresh_node
  fresh-closed p h = get_or-replicate 6 p closed closed h

  -- the maker gives one where the position is a trailer's
  pub made-at : {p : Position} → trailer_at own ≡ Some p → fresh_of own unit ≡ done (fresh_node own unit)
  unfolding fresh_of made_at
  made-at e = ap (made_at (fresh_node own unit)) e

  pub made_none : trailer_at own ≡ None → fresh_of own unit ≡ unchanged (fresh_node own unit) (refusal 1)
  unfolding fresh_of made_at
  made_none e = ap (made_at (fresh_node own unit)) e

-- the makers give one: at any position 1 to 5, and at position 1
pub made-fresh : (own : Position) (unit : ℕ) → 1 ≤ place_of own → fresh_of (place_of own) unit ≡ record { node = fresh_node (place_of own) unit; answer = (Ok tt) }
unfolding done
made-fresh own unit h = made-at (place_of own) unit (trailer-back own h)

-- 1 "own position not 1..5": of every other
pub fresh-1 : (own unit : ℕ) → (own < 1) ⊎ (5 < own) → fresh_of own unit ≡ unchanged (fresh_node own unit) (refusal 1)
fresh-1 own unit h = made_none own unit (trailer-no own h)

pub start-fresh : (unit : ℕ) → start_of unit ≡ fresh_node 1 unit
unfolding start_of
start-fresh unit = refl

-- ---- taking an address
-- 1 before 15: "lent state breaks its rules"
pub address-1 : (n : Node) (source : ℕ) → sound_node n ≡ false → taken_by n source ≡ unchanged n (refusal 1)
unfolding taken_by
address-1 n source h = pick-false _ _ h

module _ (n : Node) (source : ℕ) (sound : sound_node n ≡ true) where
  -- 15 leaves all as found
  pub address-15 : (why : Refusal) → taken_after source ≡ Err why → taken_by n source ≡ unchanged n (refusal 15)
  unfolding taken_by taken_to
  address-15 why e = pick_true _ _ sound ∙ ap (taken_to n) e ∙ ap (unchanged n) (after-15 source why e)

  module _ (p : Position) (e : taken_after source ≡ Ok p) where
    -- "the same one changes nothing"
    pub same_position : place_of p ≡ n.own → taken_by n source ≡ done n
    unfolding taken_by taken_to
    same_position h = pick_true _ _ sound ∙ ap (taken_to n) e ∙ pick_true _ _ (eq-eqb _ _ h)

    -- "A new position closes all receptions": the node is fresh there
    pub new-position : (place_of p ≡ n.own → ⊥) → taken_by n source ≡ done (fresh_node (place_of p) n.unit)
    unfolding taken_by taken_to
    new-position h = pick_true _ _ sound ∙ ap (taken_to n) e ∙ pick-false _ _ (ne_eqb _ _ h)
