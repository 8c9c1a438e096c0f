-- A frame that is no physical frame of a vehicle leaves its reception and its part of the buffer.
use Rattle.std.specs.Prelude.{Some}
use Rattle.std.proofs.Common.{Result, Ok, Err}
use mathlib.Core.Path.{◌≡◌, ap}
use mathlib.Core.Bool.{true, false}
use mathlib.Core.List.{List}
use Prim.Native.Nat.{ℕ}
use lib.ListN.{length}
use Rattle.identifiers.specs.declared.refusal.Refusal.{Refusal}
use Rattle.readings.specs.Positions.{place_of}
use Rattle.readings.specs.declared.position.Position.{Position}
use Rattle.receiver.specs.declared.frame.Judged.{Judged}
use Rattle.receiver.specs.declared.frame.Judged.TheVariants.{Single, First, OverLong, Consecutive}
use Rattle.receiver.specs.Nodes.{Node, reception_at}
use Rattle.receiver.specs.Steps.{step_of, judged_place}
use Rattle.receiver.proofs.LawsSteps.{Fitted}
use Rattle.receiver.proofs.LawsGiven.{refused-gives, functional-gives}
use Rattle.receiver.proofs.LawsOthers.{Unmoved, unmoved-left, unmoved-other}
use Rattle.trains.specs.Sequences.{physical_of}

module _ (q : Position) (n : Node) (buffer bytes : List ℕ) (stamp : ℕ) where
  pub unmoved : (j : Result Judged Refusal) → (physical_of j ≡ Some q → ⊥) → Fitted (judged_place j) (length bytes) (step_of (reception_at n (judged_place j)) j (length bytes) stamp)
      → Unmoved q n buffer bytes (judged_place j) (step_of (reception_at n (judged_place j)) j (length bytes) stamp)
  unfolding physical_of
  unmoved (Err why) x f = unmoved-left q n buffer bytes 0 (refused-gives buffer bytes (reception_at n 0) (length bytes) stamp why)
  unmoved (Ok (Single p true L)) x f = unmoved-left q n buffer bytes (place_of p) (functional-gives buffer bytes (reception_at n (place_of p)) (length bytes) stamp p L)
  unmoved (Ok (Single p false L)) x f = unmoved-other q n buffer bytes p _ f (λ e. x (ap Some e))
  unmoved (Ok (First p L)) x f = unmoved-other q n buffer bytes p _ f (λ e. x (ap Some e))
  unmoved (Ok (OverLong p)) x f = unmoved-other q n buffer bytes p _ f (λ e. x (ap Some e))
  unmoved (Ok (Consecutive p k)) x f = unmoved-other q n buffer bytes p _ f (λ e. x (ap Some e))
