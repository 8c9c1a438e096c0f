-- The rules of a lent node, as they are asked: own position, unit, then each reception; and what they give.
use Prim.Native.Nat.{suc}
use Rattle.std.specs.List.{list_all, range_with_len}
use Rattle.std.proofs.Common.{◌≡◌, ℕ, ◌<◌, ◌≤◌, ◌&&◌, Bool, true, false, leb, sym, refl, ap, ◌∙◌, arith, leb-true}
use Rattle.identifiers.specs.Choice.{both}
use Rattle.identifiers.specs.Below.{all_below}
use Rattle.identifiers.proofs.LawsChoice.{both_true, both_false}
use Rattle.identifiers.proofs.LawsBelow.{all_none, all-suc, all-at, all_both}
use Rattle.receiver.specs.declared.reception.Reception.{Reception}
use Rattle.receiver.specs.Receptions.{sound_reception}
use Rattle.receiver.specs.Nodes.{Node, reception_at, sound_node}
use Rattle.receiver.specs.Lent.{in_bytes, bytes_in, keeps, sound_lent}

-- ---- the rules, as they are asked: own position, unit, then each reception
asked-in-turn : (unit bytes low high sound : Bool) → both (both unit bytes) (both low (both high sound)) ≡ both low (both high (both unit (both bytes sound)))
unfolding both
asked-in-turn true true low high sound = refl
asked-in-turn true false low high sound = sym (ap (both low) (both_false high) ∙ both_false low)
asked-in-turn false bytes low high sound = sym (ap (both low) (both_false high) ∙ both_false low)

four-tests : (a b c d : Bool) → ((a && b) && c) && d ≡ both a (both b (both c d))
unfolding both
four-tests true true true d = refl
four-tests true true false d = refl
four-tests true false c d = refl
four-tests false b c d = refl

six-tests : (a b c d e f : Bool) → a && (b && (c && (d && (e && (f && true))))) ≡ both (both (both (both (both a b) c) d) e) f
unfolding both
six-tests true true true true true true = refl
six-tests true true true true true false = refl
six-tests true true true true false f = refl
six-tests true true true false e f = refl
six-tests true true false d e f = refl
six-tests true false c d e f = refl
six-tests false b c d e f = refl

module _ (n : Node) where
  pub by_tests : sound_lent n ≡ both (leb 1 n.own) (both (leb n.own 5) (both (leb n.unit 255) (all_below (keeps n) 6)))
  unfolding sound_lent bytes_in sound_node
  by_tests =
      asked-in-turn (leb n.unit 255) (all_below (λ p. in_bytes (reception_at n p)) 6) (leb 1 n.own) (leb n.own 5) (all_below (λ p. sound_reception (reception_at n p)) 6)
      ∙ ap (λ (b : Bool). both (leb 1 n.own) (both (leb n.own 5) (both (leb n.unit 255) b))) (all_both (λ p. in_bytes (reception_at n p)) (λ p. sound_reception (reception_at n p)) 6)

  more : (k : ℕ) {b : Bool} → all_below (keeps n) k ≡ b → all_below (keeps n) (suc k) ≡ both b (keeps n k)
  more k e = all-suc (keeps n) k ∙ ap (λ (t : Bool). both t (keeps n k)) e

  six : list_all (keeps n) (range_with_len 0 6) ≡ all_below (keeps n) 6
  unfolding both
  six =
      six-tests (keeps n 0) (keeps n 1) (keeps n 2) (keeps n 3) (keeps n 4) (keeps n 5)
      ∙ sym (more 5 (more 4 (more 3 (more 2 (more 1 (more 0 (all_none (keeps n))))))))

  -- so the code asks
  pub as-asked : ((leb 1 n.own && leb n.own 5) && leb n.unit 255) && list_all (keeps n) (range_with_len 0 6) ≡ sound_lent n
  as-asked = ap (λ (b : Bool). ((leb 1 n.own && leb n.own 5) && leb n.unit 255) && b) six ∙ four-tests _ _ _ _ ∙ sym by_tests

  module _ (h : sound_lent n ≡ true) where
    pub lent-bytes : bytes_in n ≡ true
    unfolding sound_lent
    lent-bytes = (both_true _ _ h).0

    pub lent-sound : sound_node n ≡ true
    unfolding sound_lent
    lent-sound = (both_true _ _ h).1

    pub own-byte : n.own < 256
    unfolding sound_node
    own-byte = let e : n.own ≤ 5 = leb-true _ _ (both_true _ _ (both_true _ _ lent-sound).1).0 in omega arith

    pub unit-byte : n.unit < 256
    unfolding bytes_in
    unit-byte = let e : n.unit ≤ 255 = leb-true _ _ (both_true _ _ lent-bytes).0 in omega arith

  -- of each reception, where all are bytes
  pub bytes-at : bytes_in n ≡ true → (p : ℕ) → p < 6 → in_bytes (reception_at n p) ≡ true
  unfolding bytes_in
  bytes-at h p l = all-at (λ (i : ℕ). in_bytes (reception_at n i)) p 6 (both_true _ _ h).1 l

pub length-byte : (r : Reception) → in_bytes r ≡ true → r.length ≤ 255
unfolding in_bytes
length-byte r h = leb-true _ _ (both_true _ _ h).0
