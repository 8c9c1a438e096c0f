-- What a frame does to its vehicle's reception and to the buffer (document 01, "Frames and trains").
use Rattle.std.specs.Prelude.{◌≡◌, ℕ, ◌+◌, ◌-◌, ◌*◌, ◌%◌, ◌^◌, min, Bool, List, take, drop, ◌==◌, nat_lt, Result, Ok, Err}
use Rattle.identifiers.specs.Choice.{pick, unless}
use Rattle.identifiers.specs.Bytes.{written}
use Rattle.identifiers.specs.Refusals.{refusal}
use Rattle.identifiers.specs.declared.refusal.Refusal.{Refusal}
use Rattle.readings.specs.Positions.{place_of}
use Rattle.readings.specs.declared.position.Position.{Position}
use Rattle.receiver.specs.declared.reception.Reception.{Reception}
use Rattle.receiver.specs.declared.frame.Judged.{Judged}
use Rattle.receiver.specs.declared.frame.Judged.TheVariants as judged
use Rattle.receiver.specs.declared.outcome.Outcome.{Outcome}
use Rattle.receiver.specs.declared.outcome.Outcome.TheVariants.{OverLong, Opened, Taken, Single, Train}
use Rattle.receiver.specs.Receptions.{closed, open_with, region_at}

-- what a frame does: its vehicle's reception afterwards, `count` bytes of its data, from `start` on, written at `at`, and its outcome
pub record Step : Type 0 where
  pub reception : Reception
  pub at : ℕ
  pub start : ℕ
  pub count : ℕ
  pub outcome : Result Outcome Refusal

-- the place of the vehicle whose reception a frame is about; 0 where it is refused by itself
abbrev pub judged_place : Result Judged Refusal → ℕ
judged_place (Err why) = 0
judged_place (Ok (judged.Single from functional L)) = place_of from
judged_place (Ok (judged.First from L)) = place_of from
judged_place (Ok (judged.OverLong from)) = place_of from
judged_place (Ok (judged.Consecutive from number)) = place_of from

-- "An accepted frame of a train writes its message bytes there, and nothing else is written"
unfoldable pub written_by : List ℕ → Step → List ℕ → List ℕ
written_by buffer s bytes = written buffer s.at (take s.count (drop s.start bytes))

-- so what a step gives, by a frame with these data bytes, with this buffer: the reception, the outcome, and the buffer afterwards
pub record Gives (buffer bytes : List ℕ) (s : Step) (r : Reception) (o : Result Outcome Refusal) (after : List ℕ) : Type 0 where
  pub reception : s.reception ≡ r
  pub outcome : s.outcome ≡ o
  pub leaves : written_by buffer s bytes ≡ after

-- "the gap is later minus earlier modulo 2^32"
unfoldable pub gap_of : ℕ → ℕ → ℕ
gap_of later earlier = (later + (2 ^ 32 - earlier)) % 2 ^ 32

-- nothing changes; the reception is closed
unfoldable pub leaving : Reception → Result Outcome Refusal → Step
leaving r outcome = record { reception = r; at = 0; start = 0; count = 0; outcome = outcome }

unfoldable pub closing : Result Outcome Refusal → Step
closing outcome = leaving closed outcome

-- "A first frame opens it anew": its five message bytes stand behind the third data byte
unfoldable pub opened : Position → ℕ → ℕ → Step
opened from L stamp = record { reception = open_with L 0 stamp; at = region_at from; start = 3; count = 5; outcome = Ok (Opened from) }

-- how many message bytes are in, and how many are left
unfoldable pub done_of : Reception → ℕ
done_of r = 5 + 6 * r.taken

unfoldable pub left_of : Reception → ℕ
left_of r = r.length - done_of r

-- the k-th consecutive frame's "m = min(6, bytes left) message bytes" go behind those that are in
unfoldable pub taken_step : Reception → Position → ℕ → Step
taken_step r from stamp =
    pick (nat_lt 6 (left_of r))
    (record { reception = open_with r.length (r.taken + 1) stamp; at = region_at from + done_of r; start = 2; count = 6; outcome = Ok (Taken from) })
    (record { reception = closed; at = region_at from + done_of r; start = 2; count = left_of r; outcome = Ok (Train from r.length) })

-- a consecutive frame: 12 "nothing open", then 9 "in at least 2 + m data bytes", 13 "number k mod 16", 14 "the gap is at most 150 ms"
unfoldable pub followed : Reception → Position → ℕ → ℕ → ℕ → Step
followed r from number count stamp =
    pick (r.length == 0) (leaving r (Err (refusal 12)))
    (pick (nat_lt count (2 + min 6 (left_of r))) (leaving r (Err (refusal 9)))
    (unless (number == (r.taken + 1) % 16) (closing (Err (refusal 13)))
    (pick (nat_lt 150 (gap_of stamp r.last)) (closing (Err (refusal 14))) (taken_step r from stamp))))

-- "A physical single frame .. ends the open reception"; "Functional frames .. touch no reception"
abbrev pub behind_single : Reception → Bool → Reception
behind_single r functional = pick functional r closed

-- "A physical single frame, a first frame, an over-long one, a wrong number or a late frame ends the open reception"
unfoldable pub step_of : Reception → Result Judged Refusal → ℕ → ℕ → Step
step_of r (Err why) count stamp = leaving r (Err why)
step_of r (Ok (judged.Single from functional L)) count stamp = leaving (behind_single r functional) (Ok (Single from functional L))
step_of r (Ok (judged.First from L)) count stamp = opened from L stamp
step_of r (Ok (judged.OverLong from)) count stamp = closing (Ok (OverLong from))
step_of r (Ok (judged.Consecutive from number)) count stamp = followed r from number count stamp
