-- What a frame carries, checks 9 and 10, and what it is by itself: checks 2 to 10 (document 01, "Frames and trains", "Refusal numbers").
use Rattle.std.specs.Prelude.{ℕ, ◌+◌, ◌*◌, ◌/◌, ◌%◌, Bool, List, length, ◌==◌, nat_lt, slice_index, Result, Ok, Err}
use Rattle.identifiers.specs.Choice.{pick}
use Rattle.identifiers.specs.Refusals.{refusal}
use Rattle.identifiers.specs.declared.refusal.Refusal.{Refusal}
use Rattle.readings.specs.declared.position.Position.{Position}
use Rattle.receiver.specs.declared.addressing.Addressing.{Addressing}
use Rattle.receiver.specs.declared.frame.Judged.{Judged}
use Rattle.receiver.specs.declared.frame.Judged.TheVariants.{Single, First, OverLong, Consecutive}
use Rattle.receiver.specs.Addressings.{addressing_of}

-- a frame on the wire: its identifier, its data bytes, and the stamp at which it is offered
pub record Frame : Type 0 where
  pub identifier : ℕ
  pub bytes : List ℕ
  pub stamp : ℕ

-- "0 single: low half L 1..6, at least 2 + L data bytes"
unfoldable pub single_of : Position → Bool → ℕ → ℕ → Result Judged Refusal
single_of from functional low count =
    pick (low == 0) (Err (refusal 9)) (pick (nat_lt 6 low) (Err (refusal 9)) (pick (nat_lt count (2 + low)) (Err (refusal 9)) (Ok (Single from functional low))))

-- "L in 12 bits (low half, then the third byte)"
unfoldable pub first_length : List ℕ → ℕ
first_length bytes = slice_index bytes 1 % 16 * 256 + slice_index bytes 2

-- "1 first: 8 data bytes, .. 7..255, then five message bytes. More than 255 is over-long"
unfoldable pub first_of : Position → List ℕ → Result Judged Refusal
first_of from bytes =
    pick (nat_lt (length bytes) 8) (Err (refusal 9))
    (pick (nat_lt (first_length bytes) 7) (Err (refusal 9)) (pick (nat_lt 255 (first_length bytes)) (Ok (OverLong from)) (Ok (First from (first_length bytes)))))

-- "The second byte's high half": 0 single, 1 first, 2 consecutive, "3 flow control: not for a receiver"; "Functional frames are single only".
-- 9 "no second byte, high half 4..15, lengths not as above, functional and not single", 10 "physical flow control"
unfoldable pub carried_of : Position → Bool → List ℕ → Result Judged Refusal
carried_of from functional bytes =
    pick (nat_lt (length bytes) 2) (Err (refusal 9))
    (pick (slice_index bytes 1 / 16 == 0) (single_of from functional (slice_index bytes 1 % 16) (length bytes))
    (pick functional (Err (refusal 9))
    (pick (slice_index bytes 1 / 16 == 1) (first_of from bytes)
    (pick (slice_index bytes 1 / 16 == 2) (Ok (Consecutive from (slice_index bytes 1 % 16)))
    (pick (slice_index bytes 1 / 16 == 3) (Err (refusal 10)) (Err (refusal 9)))))))

-- 2 to 8 of the frame, then 9 and 10
unfoldable pub judged_from : List ℕ → Result Addressing Refusal → Result Judged Refusal
judged_from bytes (Err why) = Err why
judged_from bytes (Ok a) = carried_of a.from a.functional bytes

unfoldable pub judged_of : Position → ℕ → ℕ → List ℕ → Result Judged Refusal
judged_of own unit identifier bytes = judged_from bytes (addressing_of own unit identifier bytes)
