-- Document 02, 2026-07: a frame with R set is sent on exactly where the same frame with R 0 is, and never kept; else the route is as it was.
use mathlib.Core.Path.{◌≡◌, refl, sym, ap, ◌∙◌}
use mathlib.Core.Bool.{Bool, true, false}
use Prim.Native.Nat.{ℕ, ◌-◌, ◌^◌, ◌≤◌, ◌<◌}
use Rattle.std.specs.Prelude.{Option, Some, None, Result, Ok, Err}
use Rattle.identifiers.specs.Choice.{pick, unless, both}
use Rattle.identifiers.specs.Refusals.{refusal}
use Rattle.identifiers.specs.Identifiers.{reserved_bit, frame_passing, frame_read, target_of}
use Rattle.identifiers.specs.declared.identifier.Identifier.{Identifier}
use Rattle.identifiers.proofs.LawsIdentifiers.{frame-4, frame-passes, frame-read-passing}
use Rattle.identifiers.proofs.LawsReserved.{with_reserved, read_set, set-passing}
use Rattle.readings.specs.declared.position.Position.{Position}
use Rattle.readings.specs.declared.routing.Side.{Side}
use Rattle.readings.specs.declared.routing.Passage.{Passage}
use Rattle.readings.specs.Positions.{place_of, address_of, position_of}
use Rattle.readings.specs.Routes.{own_position, comes_from, named, onward_of, passage, routed_from, routed_by, routed_read, routed_at, route_of, routed_told}
use Rattle.identifiers.specs.declared.refusal.Refusal.{Refusal}

-- ---- "the router sends such frames on by the same rule but never keeps them"
-- the same answer, but not kept
abbrev pub unkept : Result (Option Passage) Refusal → Result (Option Passage) Refusal
unkept (Ok (Some p)) = Ok (Some (record { kept = false; onward = p.onward }))
unkept (Ok None) = Ok None
unkept (Err why) = Err why

module _ (side : Side) (successor : Bool) where
  set-test : (t : Bool) (p q : Passage) → Ok (Some p) ≡ unkept (Ok (Some q)) → Ok (unless t None (Some p)) ≡ unkept (Ok (unless t None (Some q)))
  unfolding pick
  set-test true p q e = e
  set-test false p q e = refl

  set-from : (own : Position) (i : Identifier) (v : Option Position) → Ok (routed_from side own successor (with_reserved 1 i) v) ≡ unkept (Ok (routed_from side own successor i v))
  unfolding routed_from passage both
  set-from own i (Some source) = set-test _ _ _ refl
  set-from own i None = refl

  set-read : (own : Position) (answer : Result Identifier Refusal) → routed_read side own successor (read_set answer) ≡ unkept (routed_read side own successor answer)
  unfolding routed_read routed_by
  set-read own (Ok i) = set-from own i (position_of i.source)
  set-read own (Err why) = refl

  set_at : (answer : Result Identifier Refusal) (v : Option Position) → routed_at side successor (read_set answer) v ≡ unkept (routed_at side successor answer v)
  unfolding routed_at
  set_at answer (Some own) = set-read own answer
  set_at answer None = refl

told-unkept : (r : Result (Option Passage) Refusal) → (routed_told (unkept r)).kept ≡ false
unfolding routed_told
told-unkept (Ok (Some p)) = refl
told-unkept (Ok None) = refl
told-unkept (Err why) = refl

-- of a number with R set: the same with R 0 is 2 ^ 25 less
module _ (side : Side) (own : ℕ) (successor : Bool) (n count : ℕ) (set : reserved_bit n ≡ 1) where
  pub reserved-sent-on : route_of side own successor n count ≡ unkept (route_of side own successor (n - 2 ^ 25) count)
  unfolding route_of
  reserved-sent-on =
      ap (λ (answer : Result Identifier Refusal). routed_at side successor answer (own_position own successor)) (set-passing n set count) ∙ set_at side successor (frame_passing (n - 2 ^ 25) count) (own_position own successor)

  pub reserved-never-kept : (routed_told (route_of side own successor n count)).kept ≡ false
  reserved-never-kept = ap (λ (r : Result (Option Passage) Refusal). (routed_told r).kept) reserved-sent-on ∙ told-unkept (route_of side own successor (n - 2 ^ 25) count)

-- ---- with R 0 nothing changed
-- the rule before: 1, then 2, 3 and 4 of the frame, else its route, kept wherever it names the trailer
from_before : Side → Position → Bool → Identifier → Option Position → Option Passage
from_before side own successor i (Some source) =
    unless (comes_from side (place_of own) successor (place_of source)) None (Some (record { kept = named (address_of own) (target_of i); onward = onward_of side successor }))
from_before side own successor i None = None

read_before : Side → Position → Bool → Result Identifier Refusal → Result (Option Passage) Refusal
read_before side own successor (Ok i) = Ok (from_before side own successor i (position_of i.source))
read_before side own successor (Err why) = Err why

at_before : Side → Bool → Result Identifier Refusal → Option Position → Result (Option Passage) Refusal
at_before side successor answer (Some own) = read_before side own successor answer
at_before side successor answer None = Err (refusal 1)

pub route_before : Side → ℕ → Bool → ℕ → ℕ → Result (Option Passage) Refusal
route_before side own successor n count = at_before side successor (frame_read n count) (own_position own successor)

module _ (side : Side) (successor : Bool) where
  same_from : (own : Position) (i : Identifier) (v : Option Position) → i.reserved ≡ 0 → routed_from side own successor i v ≡ from_before side own successor i v
  unfolding routed_from passage both from_before
  same_from own i (Some source) r = rw r
  same_from own i None r = refl

  same_read : (own : Position) (answer : Result Identifier Refusal) → ((i : Identifier) → answer ≡ Ok i → i.reserved ≡ 0) → routed_read side own successor answer ≡ read_before side own successor answer
  unfolding routed_read routed_by read_before
  same_read own (Ok i) r = ap Ok (same_from own i (position_of i.source) (r i refl))
  same_read own (Err why) r = refl

  same_at : (answer : Result Identifier Refusal) (v : Option Position) → ((i : Identifier) → answer ≡ Ok i → i.reserved ≡ 0) → routed_at side successor answer v ≡ at_before side successor answer v
  unfolding routed_at at_before
  same_at answer (Some own) r = same_read own answer r
  same_at answer None r = refl

module _ (side : Side) (own : ℕ) (successor : Bool) (n count : ℕ) where
  -- unless the frame passes and has R set, which was refused by 4
  pub current-unchanged : (n < 2 ^ 29 → count ≤ 8 → reserved_bit n ≡ 1 → ⊥) → route_of side own successor n count ≡ route_before side own successor n count
  unfolding route_of route_before
  current-unchanged h =
      ap (λ (answer : Result Identifier Refusal). routed_at side successor answer (own_position own successor)) (sym (frame-read-passing n count h))
      ∙ same_at side successor (frame_read n count) (own_position own successor) (λ i e. (frame-passes n count i e).1)

  pub stopped-before : (p : Position) → own_position own successor ≡ Some p → n < 2 ^ 29 → count ≤ 8 → reserved_bit n ≡ 1 → route_before side own successor n count ≡ Err (refusal 4)
  unfolding route_before at_before read_before
  stopped-before p e h l r = ap (at_before side successor (frame_read n count)) e ∙ ap (read_before side p successor) (frame-4 n count h l r)
