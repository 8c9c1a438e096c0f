-- The lent node and its buffer after a frame: where refusal 1 is given, and what every refusal leaves of the numbers and of the bytes.
use Rattle.std.proofs.Common.{◌≡◌, ℕ, ◌<◌, Bool, true, false, leb, ◌≢◌, ◌↔◌, List, length, sym, refl, ap, ◌∙◌, arith, leb-false, Err}
use mathlib.Core.Bool.{false≢true}
use borrow.Author.Tests.{lt-leb}
use Rattle.identifiers.specs.Choice.{pick, both}
use Rattle.identifiers.specs.Below.{all_below}
use Rattle.identifiers.specs.Refusals.{refusal}
use Rattle.identifiers.proofs.LawsChoice.{both_false, stop}
use Rattle.identifiers.proofs.LawsBelow.{all-not, all-fails}
use Rattle.receiver.specs.Nodes.{Node, reception_at}
use Rattle.receiver.specs.Outcomes.{outcome_told, nothing_told}
use Rattle.receiver.specs.Receiving.{Received, received_of, buffer_after}
use Rattle.receiver.specs.Changes.{closes, Leaves}
use Rattle.receiver.specs.Names.{NoByte, unit_over, length_over, taken_over, BrokenLent, no_byte, as_every_node}
use Rattle.receiver.specs.Lent.{numbers_of, node_in, in_bytes, bytes_in, lent_received, lent_buffer}
use Rattle.receiver.proofs.LawsRow.{numbers-back}
use Rattle.receiver.proofs.LawsBroken.{refused-1}
use Rattle.receiver.proofs.OneFrame.{as-found, refusal-leaves}

-- ---- where a number is no byte
module _ (n : Node) where
  abbrev test : ℕ → Bool
  test p = in_bytes (reception_at n p)

  which-number : (p : ℕ) → p < 6 → (length taken : Bool) → leb (reception_at n p).length 255 ≡ length → leb (reception_at n p).taken 255 ≡ taken → both length taken ≡ false → NoByte n
  unfolding both
  which-number p l false taken a b e = length_over l (leb-false _ _ a)
  which-number p l true false a b e = taken_over l (leb-false _ _ b)
  which-number p l true true a b e = absurd (false≢true (sym e))

  which-over : (unit all : Bool) → leb n.unit 255 ≡ unit → all_below test 6 ≡ all → both unit all ≡ false → NoByte n
  unfolding both in_bytes
  which-over false all a b e = unit_over (leb-false _ _ a)
  which-over true false a b e = let x = all-not test 6 b in which-number x.0 x.1.0 _ _ refl refl x.1.1
  which-over true true a b e = absurd (false≢true (sym e))

  is-over : NoByte n → bytes_in n ≡ false
  unfolding bytes_in in_bytes
  is-over (unit_over h) = sym (stop _ (lt-leb _ _ h))
  is-over (length_over {p} l h) = ap (both _) (all-fails test p 6 l (sym (stop _ (lt-leb _ _ h)))) ∙ both_false _
  is-over (taken_over {p} l h) = ap (both _) (all-fails test p 6 l (ap (both _) (lt-leb _ _ h) ∙ both_false _)) ∙ both_false _

  pub over-exactly : bytes_in n ≡ false ↔ NoByte n
  unfolding bytes_in
  over-exactly = (which-over _ _ refl refl, is-over)

module _ (n : Node) (buffer : List ℕ) (identifier : ℕ) (bytes : List ℕ) (stamp : ℕ) where
  abbrev as-node : Received
  as-node = received_of n buffer identifier bytes stamp

  abbrev refused : Received
  refused = record { node = n; outcome = Err (refusal 1) }

  -- ---- 1, exactly where the numbers or the buffer break the rules
  abbrev One : Bool → Type 0
  One b = (pick b as-node refused).outcome ≡ Err (refusal 1)

  only_so : (b : Bool) → bytes_in n ≡ b → One b → BrokenLent n buffer
  unfolding pick
  only_so true e h = as_every_node ((refused-1 n buffer identifier bytes stamp).0 h)
  only_so false e h = no_byte ((over-exactly n).0 e)

  so-given : (b : Bool) → bytes_in n ≡ b → BrokenLent n buffer → One b
  unfolding pick
  so-given false e x = refl
  so-given true e (no_byte x) = ap (λ (c : Bool). (pick c as-node refused).outcome) (sym e ∙ (over-exactly n).1 x)
  so-given true e (as_every_node x) = (refused-1 n buffer identifier bytes stamp).1 x

  pub lent-refused-1 : (lent_received n buffer identifier bytes stamp).outcome ≡ Err (refusal 1) ↔ BrokenLent n buffer
  unfolding lent_received
  lent-refused-1 = (only_so (bytes_in n) refl, so-given (bytes_in n) refl)

  -- ---- "A refusal .. leaves state and buffers as found; 11, 13 and 14 close that vehicle's reception"
  module _ (number : ℕ) (some : number ≢ 0) where
    leaves-so : (b : Bool) → (outcome_told (pick b as-node refused).outcome).refusal ≡ number
        → Leaves n buffer identifier number (pick b as-node refused).node (pick b (buffer_after n buffer identifier bytes stamp) buffer)
    unfolding pick outcome_told nothing_told
    leaves-so true e = refusal-leaves n buffer identifier bytes stamp number some e
    leaves-so false e = as-found n buffer identifier bytes stamp number some (omega (arith, e))

    pub lent-leaves : (outcome_told (lent_received n buffer identifier bytes stamp).outcome).refusal ≡ number
        → Leaves n buffer identifier number (lent_received n buffer identifier bytes stamp).node (lent_buffer n buffer identifier bytes stamp)
    unfolding lent_received lent_buffer
    lent-leaves = leaves-so (bytes_in n)

-- the twenty numbers themselves: every other refusal leaves each as found
pub numbers_stay : (numbers buffer : List ℕ) (identifier : ℕ) (bytes : List ℕ) (stamp number : ℕ) → length numbers ≡ 20 → number ≢ 0 → closes number ≡ false
    → (outcome_told (lent_received (node_in numbers) buffer identifier bytes stamp).outcome).refusal ≡ number
    → numbers_of (lent_received (node_in numbers) buffer identifier bytes stamp).node ≡ numbers
numbers_stay numbers buffer identifier bytes stamp number twenty some keeps e =
    ap numbers_of ((lent-leaves (node_in numbers) buffer identifier bytes stamp number some e).node_stays keeps) ∙ numbers-back numbers twenty
