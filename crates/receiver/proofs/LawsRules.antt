-- The rules of a reception and of a node: what they say of a reception, and what keeps them.
use Rattle.std.proofs.Common.{◌≡◌, ℕ, zero, suc, ◌+◌, ◌*◌, ◌<◌, ◌≤◌, true, ◌≢◌, List, [], ◌∷◌, get_or, set, sym, refl, ap, ◌∙◌, arith, ltb-true, lt-ltb, ne_eqb, le-leb, leb-true}
use Rattle.identifiers.specs.Choice.{pick, both}
use Rattle.identifiers.proofs.LawsChoice.{pick-false, so, both_true}
use Rattle.identifiers.proofs.LawsBelow.{all-at, all-each}
use Rattle.receiver.specs.declared.reception.Reception.{Reception}
use Rattle.receiver.specs.Receptions.{closed, open_with, sound_reception}
use Rattle.receiver.specs.Nodes.{Node, reception_at, with_reception, sound_node, fresh_node}
use Rattle.receiver.specs.Lent.{in_bytes}
use Rattle.receiver.proofs.LawsNodes.{fresh-closed}

-- ---- of one reception, and of each of a node's
pub sound-closed : sound_reception closed ≡ true
unfolding sound_reception pick both
sound-closed = refl

pub closed-bytes : in_bytes closed ≡ true
unfolding in_bytes both
closed-bytes = refl

pub open-bytes : (L k t : ℕ) → L ≤ 255 → 5 + 6 * k < L → in_bytes (open_with L k t) ≡ true
unfolding in_bytes
open-bytes L k t a b = let c : k ≤ 255 = omega arith in sym (so (le-leb _ _ a) (sym (le-leb _ _ c)))

pub sound-open : (L k t : ℕ) → 7 ≤ L → 5 + 6 * k < L → sound_reception (open_with L k t) ≡ true
unfolding sound_reception
sound-open L k t a b = let z : L ≢ 0 = λ (e : L ≡ 0). omega arith in pick-false _ _ (ne_eqb L 0 z) ∙ sym (so (le-leb _ _ a) (sym (lt-ltb _ _ b)))

pub open-facts : (r : Reception) → sound_reception r ≡ true → r.length ≢ 0 → (7 ≤ r.length) × (5 + 6 * r.taken < r.length)
unfolding sound_reception
open-facts r h z = let e = both_true _ _ (sym (pick-false _ _ (ne_eqb _ _ z)) ∙ h) in (leb-true _ _ e.0, ltb-true _ _ e.1)

pub sound-at : (n : Node) (p : ℕ) → sound_node n ≡ true → p < 6 → sound_reception (reception_at n p) ≡ true
unfolding sound_node
sound-at n p h l = all-at (λ (i : ℕ). sound_reception (reception_at n i)) p 6 (both_true _ _ (both_true _ _ h).1).1 l

-- after a store an element is the one stored or the one that was there
pub set_cases : (P : Reception → Type 0) (l : List Reception) (p j : ℕ) (r d : Reception) → P r → P (get_or l j d) → P (get_or (set l p r) j d)
set_cases P [] p j r d x y = y
set_cases P (a ∷ l) zero zero r d x y = x
set_cases P (a ∷ l) zero (suc j) r d x y = y
set_cases P (a ∷ l) (suc p) zero r d x y = y
set_cases P (a ∷ l) (suc p) (suc j) r d x y = set_cases P l p j r d x y

-- a node keeps them with a reception stored that does, and so does a fresh one at any position 1 to 5
pub sound-with : (n : Node) (p : ℕ) (r : Reception) → sound_reception r ≡ true → sound_node n ≡ true → sound_node (with_reception n p r) ≡ true
unfolding sound_node with_reception reception_at
sound-with n p r g h =
    let a = both_true _ _ h in
    let b = both_true _ _ a.1 in
    sym (so a.0 (sym (sym (so b.0 (sym (all-each _ 6 (λ i l. set_cases (λ (x : Reception). sound_reception x ≡ true) n.receptions p i r closed g (all-at _ i 6 b.1 l))))))))

pub fresh-sound : (own unit : ℕ) → 1 ≤ own → own ≤ 5 → sound_node (fresh_node own unit) ≡ true
unfolding sound_node fresh_node
fresh-sound own unit a b =
    sym (so (le-leb 1 own a) (sym (sym (so (le-leb own 5 b) (sym (all-each _ 6 (λ i l. ap sound_reception (fresh-closed own unit i l) ∙ sound-closed)))))))
