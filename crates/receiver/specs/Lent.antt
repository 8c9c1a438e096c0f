-- The node as a host lends it: twenty numbers, the own position and the unit, then length, taken and last stamp of one reception after the other.
use Rattle.std.specs.Prelude.{◌≡◌, ℕ, Bool, List, [], ◌∷◌, drop, nat_le, slice_index, Result, Ok, Err}
use Rattle.identifiers.specs.Choice.{pick, both}
use Rattle.identifiers.specs.Below.{all_below}
use Rattle.identifiers.specs.Refusals.{refusal}
use Rattle.identifiers.specs.declared.refusal.Refusal.{Refusal}
use Rattle.receiver.specs.declared.reception.Reception.{Reception}
use Rattle.receiver.specs.declared.outcome.Outcome.{Outcome}
use Rattle.receiver.specs.declared.outcome.OutcomeTold.{OutcomeTold}
use Rattle.receiver.specs.Outcomes.{outcome_told}
use Rattle.receiver.specs.Receptions.{open_with, sound_reception}
use Rattle.receiver.specs.Nodes.{Node, Changed, reception_at, sound_node, unchanged, taken_by}
use Rattle.receiver.specs.Receiving.{Received, received_of, buffer_after}

-- the numbers of a node
unfoldable pub in_row : List Reception → List ℕ
in_row [] = []
in_row (r ∷ rs) = r.length ∷ r.taken ∷ r.last ∷ in_row rs

unfoldable pub numbers_of : Node → List ℕ
numbers_of n = n.own ∷ n.unit ∷ in_row n.receptions

-- the node that stands in numbers
unfoldable pub receptions_in : List ℕ → List Reception
receptions_in [] = []
receptions_in (L ∷ []) = []
receptions_in (L ∷ k ∷ []) = []
receptions_in (L ∷ k ∷ t ∷ more) = open_with L k t ∷ receptions_in more

unfoldable pub node_in : List ℕ → Node
node_in numbers = record { own = slice_index numbers 0; unit = slice_index numbers 1; receptions = receptions_in (drop 2 numbers) }

-- where a byte is meant a number is at most 255: the unit, and L and k of each reception; the own position is 1 to 5 by its own rule
unfoldable pub in_bytes : Reception → Bool
in_bytes r = both (nat_le r.length 255) (nat_le r.taken 255)

unfoldable pub bytes_in : Node → Bool
bytes_in n = both (nat_le n.unit 255) (all_below (λ p. in_bytes (reception_at n p)) 6)

-- 1 "lent state breaks its rules": a number over 255 where a byte is meant, or those of the node
unfoldable pub sound_lent : Node → Bool
sound_lent n = both (bytes_in n) (sound_node n)

-- of the reception of a position
abbrev pub keeps : Node → ℕ → Bool
keeps n p = both (in_bytes (reception_at n p)) (sound_reception (reception_at n p))

-- a frame offered to it: 1 where a number is no byte, and else as to every node
unfoldable pub lent_received : Node → List ℕ → ℕ → List ℕ → ℕ → Received
lent_received n buffer identifier bytes stamp = pick (bytes_in n) (received_of n buffer identifier bytes stamp) (record { node = n; outcome = Err (refusal 1) })

unfoldable pub lent_buffer : Node → List ℕ → ℕ → List ℕ → ℕ → List ℕ
lent_buffer n buffer identifier bytes stamp = pick (bytes_in n) (buffer_after n buffer identifier bytes stamp) buffer

-- so what a call answers and leaves: the outcome in numbers, the numbers of the node, and the buffer
pub record Receives (numbers buffer : List ℕ) (identifier : ℕ) (bytes : List ℕ) (stamp : ℕ) (told : OutcomeTold) (after filled : List ℕ) : Type 0 where
  pub answers : told ≡ outcome_told (lent_received (node_in numbers) buffer identifier bytes stamp).outcome
  pub leaves : after ≡ numbers_of (lent_received (node_in numbers) buffer identifier bytes stamp).node
  pub fills : filled ≡ lent_buffer (node_in numbers) buffer identifier bytes stamp

-- the same with the outcome itself
pub record ReceivesAs (numbers buffer : List ℕ) (identifier : ℕ) (bytes : List ℕ) (stamp : ℕ) (outcome : Result Outcome Refusal) (after filled : List ℕ) : Type 0 where
  pub answers : outcome ≡ (lent_received (node_in numbers) buffer identifier bytes stamp).outcome
  pub leaves : after ≡ numbers_of (lent_received (node_in numbers) buffer identifier bytes stamp).node
  pub fills : filled ≡ lent_buffer (node_in numbers) buffer identifier bytes stamp

-- an address taken
unfoldable pub lent_taken : Node → ℕ → Changed
lent_taken n source = pick (bytes_in n) (taken_by n source) (unchanged n (refusal 1))

-- "A refusal .. leaves state and buffers as found": the node is stored where it was made or changed as asked
unfoldable pub left_by : List ℕ → Result (Unit {0}) Refusal → Node → List ℕ
left_by numbers (Err why) n = numbers
left_by numbers (Ok _) n = numbers_of n

unfoldable pub stored : List ℕ → Changed → List ℕ
stored numbers c = left_by numbers c.answer c.node
