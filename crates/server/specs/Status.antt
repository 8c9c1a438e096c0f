-- The host sets the status of one code (document 01, "Server").
use Rattle.std.specs.Prelude.{ℕ, set, Result, Ok, Err}
use Rattle.identifiers.specs.Choice.{unless}
use Rattle.identifiers.specs.Refusals.{refusal}
use Rattle.identifiers.specs.declared.refusal.Refusal.{Refusal}
use Rattle.server.specs.Places.{place_among, held_among}
use Rattle.server.specs.Trailer.{sound_record, status_within, with_statuses}
use Rattle.server.specs.declared.trailer.TrailerRecord.{TrailerRecord}

-- what one setting leaves behind: the record and the answer
pub record Setting : Type 0 where
  pub after : TrailerRecord
  pub answer : Result (Unit {0}) Refusal

-- 1 "lent state breaks its rules", "18, 19 | code not held; status outside the mask"; else the status stands at the code's place
unfoldable pub setting_of : TrailerRecord → ℕ → ℕ → Setting
setting_of t code status =
    unless (sound_record t) (record { after = t; answer = Err (refusal 1) })
    (unless (held_among t.codes t.count code) (record { after = t; answer = Err (refusal 18) })
    (unless (status_within t.availability status) (record { after = t; answer = Err (refusal 19) })
    (record { after = with_statuses t (set t.statuses (place_among t.codes t.count code) status); answer = Ok tt })))
