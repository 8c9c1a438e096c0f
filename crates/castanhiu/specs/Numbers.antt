-- What a host in C hands in as a number, where no layer says so itself.
use Rattle.std.specs.Prelude.{Bool, ℕ, eqb, Option, Result, Err}
use Rattle.identifiers.specs.Choice.{pick}
use Rattle.identifiers.specs.Refusals.{refusal}
use Rattle.readings.specs.Routes.{route_of}
use Rattle.readings.specs.declared.routing.Side.TheVariants.{Predecessor, Successor}
use Rattle.receiver.specs.Cuts.{flow_control_of, no_frame}
use Rattle.receiver.specs.declared.outcome.Control.TheVariants.{Continue, Overflow}
use Rattle.receiver.specs.declared.cutter.FrameCut.{FrameCut}
use Rattle.readings.specs.declared.routing.Passage.{Passage}
use Rattle.identifiers.specs.declared.refusal.Refusal.{Refusal}

-- the side by its number: 0 the predecessor, 1 the successor; a frame that comes from no side breaks the route's rules: 1
unfoldable pub route_from : ℕ → ℕ → Bool → ℕ → ℕ → Result (Option Passage) Refusal
route_from side own successor number count =
    pick (eqb side 0) (route_of Predecessor own successor number count)
    (pick (eqb side 1) (route_of Successor own successor number count) (Err (refusal 1)))

-- the control by its number, as the outcome of a frame says it is due: 1 continue, 2 overflow; no other frame can be written: 16
unfoldable pub control_numbered : ℕ → ℕ → ℕ → ℕ → Result FrameCut Refusal
control_numbered control from to unit =
    pick (eqb control 1) (flow_control_of Continue from to unit) (pick (eqb control 2) (flow_control_of Overflow from to unit) no_frame)
