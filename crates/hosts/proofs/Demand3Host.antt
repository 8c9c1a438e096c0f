-- Demand 3 of `castanhiu_receive` itself: what a host is handed on any sequence of frames is that sequence's reading, in numbers.
use Rattle.std.proofs.Common.{Result}
use mathlib.Core.Path.{◌≡◌, refl, sym, ap, ap₂, ◌∙◌}
use mathlib.Core.Bool.{Bool, true, false}
use mathlib.Core.List.{List, [], ◌∷◌, ◌++◌}
use Prim.Native.Nat.{ℕ, ◌≤◌}
use borrow.Author.Tests.{eqb-true, eqb-false}
use lib.Dec.{eqb}
use Rattle.identifiers.proofs.LawsChoice.{pick_true, pick-false}
use Rattle.identifiers.specs.declared.refusal.Refusal.{Refusal}
use Rattle.readings.specs.Positions.{place_of}
use Rattle.readings.specs.declared.position.Position.{Position}
use Rattle.receiver.specs.declared.outcome.Outcome.{Outcome}
use Rattle.receiver.specs.declared.outcome.OutcomeTold.{OutcomeTold}
use Rattle.receiver.specs.Nodes.{Node, fresh_node, fresh_of, start_of}
use Rattle.receiver.specs.Frames.{Frame}
use Rattle.receiver.specs.Outcomes.{outcome_told}
use Rattle.receiver.specs.Receiving.{Received}
use Rattle.receiver.specs.Lent.{numbers_of, node_in, bytes_in, stored}
use Rattle.receiver.specs.Shown.{told_message}
use Rattle.readings.proofs.LawsPositions.{trailer-back}
use Rattle.receiver.proofs.LawsNodes.{made-at, start-fresh}
use Rattle.receiver.proofs.LawsRow.{node-back}
use Rattle.receiver.proofs.LawsLent.{lent-received, lent-buffer, done-so}
use Rattle.receiver.proofs.LawsBytesKept.{bytes-kept, fresh-bytes}
use Rattle.trains.specs.Sequences.{Line, start, ◌▹◌, size, Request, ReadAs}
use Rattle.trains.specs.Runs.{Held, answer, next, offered, handed, requests}
use Rattle.trains.proofs.LawsRuns.{offered-none, offered-more, requests-none, requests-more, HandsOut, hands-nothing, hands-one}
use Rattle.trains.specs.Demands.{Fresh}
use Rattle.trains.proofs.Demand3.{requests-are-the-reading}
use Rattle.hosts.specs.Hosts.{Memory, Started, received, told, left, hosted, Got, got_from, got, in_numbers}

-- ---- the statement, of a host's memory x that is started so
-- "The requests it hands out are exactly the single frames and the complete trains standing in that sequence. Each comes once, at its last frame, with the bytes its frames carry":
-- what the host gets is the reading of the sequence, in numbers; each sequence has a reading, and one only (trains/Demand3.some-reading, one-reading)
abbrev pub HostGetsTheReading : Position → ℕ → Memory → Type 0
HostGetsTheReading own unit x = (h : Line) (r : List Request) → ReadAs own unit h r → got x h ≡ in_numbers r

-- ---- the proof
in-numbers-append : (r s : List Request) → in_numbers (r ++ s) ≡ in_numbers r ++ in_numbers s
unfolding in_numbers
in-numbers-append [] s = refl
in-numbers-append (q ∷ r) s = rw (in-numbers-append r s)

-- one outcome
module _ (at : ℕ) (o : Result Outcome Refusal) (bytes buffer : List ℕ) where
  got-one : HandsOut at o bytes buffer → eqb (outcome_told o).handed_out 0 ≡ false → got_from at (outcome_told o) bytes buffer ≡ in_numbers (handed at o bytes buffer)
  unfolding got_from in_numbers
  got-one x e =
      pick-false _ _ e
      ∙ ap (λ (p : ℕ). record { at = at; from = p; functional = (outcome_told o).functional; bytes = told_message (outcome_told o) bytes buffer } ∷ []) x.place
      ∙ ap in_numbers (sym x.hands)

  got-is : (b : Bool) → eqb (outcome_told o).handed_out 0 ≡ b → got_from at (outcome_told o) bytes buffer ≡ in_numbers (handed at o bytes buffer)
  unfolding got_from in_numbers
  got-is true e = pick_true _ _ e ∙ ap in_numbers (sym (hands-nothing at bytes buffer o (eqb-true _ _ e)))
  got-is false e = got-one (hands-one at bytes buffer o (eqb-false _ _ e)) e

-- ---- the two makers leave a memory so, whatever stood there: `castanhiu_fresh` at a position 1 to 5, `castanhiu_start` at position 1
pub fresh-starts : (numbers : List ℕ) (own : Position) (unit : ℕ) → 1 ≤ place_of own → stored numbers (fresh_of (place_of own) unit) ≡ numbers_of (fresh_node (place_of own) unit)
fresh-starts numbers own unit h = sym (done-so numbers (fresh_node (place_of own) unit) (made-at (place_of own) unit (trailer-back own h)) refl).1

pub start-starts : (unit : ℕ) → numbers_of (start_of unit) ≡ numbers_of (fresh_node 1 unit)
start-starts unit = ap numbers_of (start-fresh unit)

-- ---- the memory that is lent is the node that is held
abbrev held : Memory → Held
held x = record { node = node_in x.numbers; buffer = x.buffer }

module _ (x : Memory) (f : Frame) (h : bytes_in (node_in x.numbers) ≡ true) where
  told_is : outcome_told (answer (held x) f).outcome ≡ outcome_told (received x f).outcome
  told_is = ap (λ (r : Received). outcome_told r.outcome) (sym (lent-received (node_in x.numbers) x.buffer f.identifier f.bytes f.stamp h))

  left_is : held (left x f) ≡ next (held x) f
  left_is =
      ap₂ (λ (n : Node) (b : List ℕ). record { node = n; buffer = b })
      (node-back _ ∙ ap (λ (r : Received). r.node) (lent-received (node_in x.numbers) x.buffer f.identifier f.bytes f.stamp h))
      (lent-buffer (node_in x.numbers) x.buffer f.identifier f.bytes f.stamp h)

module _ (x : Memory) (bytes : bytes_in (node_in x.numbers) ≡ true) where
  hosted-is : (h : Line) → (held (hosted x h) ≡ offered (held x) h) × (bytes_in (node_in (hosted x h).numbers) ≡ true)
  unfolding hosted
  hosted-is start = (sym (offered-none (held x)), bytes)
  hosted-is (h ▹ f) = more (hosted-is h)
    where
      more : (held (hosted x h) ≡ offered (held x) h) × (bytes_in (node_in (hosted x h).numbers) ≡ true)
          → (held (left (hosted x h) f) ≡ offered (held x) (h ▹ f)) × (bytes_in (node_in (left (hosted x h) f).numbers) ≡ true)
      more y = (
        left_is (hosted x h) f y.1 ∙ ap (λ (z : Held). next z f) y.0 ∙ sym (offered-more (held x) h f),
        ap (λ (z : Held). bytes_in z.node) (left_is (hosted x h) f y.1) ∙ bytes-kept (node_in (hosted x h).numbers) y.1 (hosted x h).buffer f.identifier f.bytes f.stamp,
      )

  got-requests : (h : Line) → got x h ≡ in_numbers (requests (held x) h)
  unfolding got hosted in_numbers
  got-requests start = ap in_numbers (sym (requests-none (held x)))
  got-requests (h ▹ f) = more (got-requests h)
    where
      more : got x h ≡ in_numbers (requests (held x) h) → got_from (size h) (told (hosted x h) f) f.bytes (left (hosted x h) f).buffer ++ got x h ≡ in_numbers (requests (held x) (h ▹ f))
      more rest =
          let y = hosted-is h in
          ap₂ (λ (t : OutcomeTold) (z : Held). got_from (size h) t f.bytes z.buffer ++ got x h) (sym (told_is (hosted x h) f y.1)) (left_is (hosted x h) f y.1)
          ∙ ap₂ (λ (z : Held) (rest : List Got). got_from (size h) (outcome_told (answer z f).outcome) f.bytes (next z f).buffer ++ rest) y.0 rest
          ∙ ap (λ (l : List Got). l ++ in_numbers (requests (held x) h)) (got-is (size h) (answer (offered (held x) h) f).outcome f.bytes (next (offered (held x) h) f).buffer _ refl)
          ∙ sym (in-numbers-append (handed (size h) (answer (offered (held x) h) f).outcome f.bytes (next (offered (held x) h) f).buffer) (requests (held x) h))
          ∙ ap in_numbers (sym (requests-more (held x) h f))

module _ (own : Position) (unit : ℕ) (x : Memory) (s : Started own unit x) where
  fresh-node : node_in x.numbers ≡ fresh_node (place_of own) unit
  fresh-node = ap node_in s.numbers ∙ node-back (fresh_node (place_of own) unit)

  fresh : Fresh own unit (held x)
  fresh = record { trailer = s.trailer; node = fresh-node; room = s.room }

  pub host-gets-the-reading : HostGetsTheReading own unit x
  host-gets-the-reading h r y =
      got-requests x (ap bytes_in fresh-node ∙ fresh-bytes (place_of own) unit s.byte) h ∙ ap in_numbers ((requests-are-the-reading own unit (held x) fresh h r).0 y)
