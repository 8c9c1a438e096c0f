-- What is answered to a frame: the flow control that is due, and the outcome in document 01's numbers ("Frames and trains", "Refusal numbers").
use Rattle.std.specs.Prelude.{ℕ, false, Result, Ok, Err}
use Rattle.identifiers.specs.Refusals.{number_of}
use Rattle.identifiers.specs.declared.refusal.Refusal.{Refusal}
use Rattle.readings.specs.Positions.{place_of}
use Rattle.receiver.specs.declared.outcome.Outcome.{Outcome}
use Rattle.receiver.specs.declared.outcome.Outcome.TheVariants.{OverLong, Opened, Taken, Single, Train}
use Rattle.receiver.specs.declared.outcome.OutcomeTold.{OutcomeTold}
use Rattle.receiver.specs.Receptions.{region_at}

-- "A first frame accepted says continue control is due"; 11 "overflow control .. is due": by its number, 0 none, 1 continue, 2 overflow
unfoldable pub due_of : Result Outcome Refusal → ℕ
due_of (Err why) = 0
due_of (Ok (OverLong from)) = 2
due_of (Ok (Opened from)) = 1
due_of (Ok (Taken from)) = 0
due_of (Ok (Single from functional L)) = 0
due_of (Ok (Train from L)) = 0

-- the outcome in document 01's numbers
unfoldable pub nothing_told : ℕ → ℕ → ℕ → OutcomeTold
nothing_told refused from control = record { refusal = refused; handed_out = 0; from = from; functional = false; start = 0; length = 0; control = control }

unfoldable pub outcome_told : Result Outcome Refusal → OutcomeTold
outcome_told (Err why) = nothing_told (number_of why) 0 0
outcome_told (Ok (OverLong from)) = nothing_told 11 (place_of from) 2
outcome_told (Ok (Opened from)) = nothing_told 0 (place_of from) 1
outcome_told (Ok (Taken from)) = nothing_told 0 (place_of from) 0
outcome_told (Ok (Single from functional L)) = record { refusal = 0; handed_out = 1; from = place_of from; functional = functional; start = 2; length = L; control = 0 }
outcome_told (Ok (Train from L)) = record { refusal = 0; handed_out = 2; from = place_of from; functional = false; start = region_at from; length = L; control = 0 }
