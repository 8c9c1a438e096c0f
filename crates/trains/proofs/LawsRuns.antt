-- A run frame by frame, and what is handed out by the numbers in which an outcome is told.
use Rattle.std.proofs.Common.{Result, Ok, Err}
use mathlib.Core.Path.{◌≡◌, refl, ap}
use mathlib.Core.Bool.{false}
use mathlib.Core.List.{List, [], ◌∷◌, ◌++◌}
use Prim.Native.Nat.{ℕ}
use native.Mathlib.Omega.{arith}
use Rattle.identifiers.specs.declared.refusal.Refusal.{Refusal}
use Rattle.readings.specs.Positions.{place_of}
use Rattle.readings.specs.declared.position.Position.{Position}
use Rattle.receiver.specs.declared.outcome.Outcome.{Outcome}
use Rattle.receiver.specs.declared.outcome.Outcome.TheVariants.{OverLong, Opened, Taken, Single, Train}
use Rattle.receiver.specs.Frames.{Frame}
use Rattle.receiver.specs.Outcomes.{nothing_told, outcome_told}
use Rattle.receiver.specs.Shown.{told_message}
use Rattle.receiver.proofs.LawsShown.{told-shown}
use Rattle.trains.specs.Sequences.{Line, start, ◌▹◌, size}
use Rattle.trains.specs.Runs.{Held, answer, next, offered, handed, handed_at, requests}

module _ (x : Held) where
  pub offered-none : offered x start ≡ x
  unfolding offered
  offered-none = refl

  pub offered-more : (h : Line) (f : Frame) → offered x (h ▹ f) ≡ next (offered x h) f
  unfolding offered
  offered-more h f = refl

  pub requests-none : requests x start ≡ []
  unfolding requests
  requests-none = refl

  pub requests-more : (h : Line) (f : Frame) → requests x (h ▹ f) ≡ handed (size h) (answer (offered x h) f).outcome f.bytes (next (offered x h) f).buffer ++ requests x h
  unfolding requests handed_at offered
  requests-more h f = refl

-- the request that an outcome hands out, by its numbers
pub record HandsOut (at : ℕ) (o : Result Outcome Refusal) (bytes buffer : List ℕ) : Type 0 where
  pub from : Position
  pub place : (outcome_told o).from ≡ place_of from
  pub hands : handed at o bytes buffer ≡ record { at = at; from = from; functional = (outcome_told o).functional; bytes = told_message (outcome_told o) bytes buffer } ∷ []

module _ (at : ℕ) (bytes buffer : List ℕ) where
  pub hands-nothing : (o : Result Outcome Refusal) → (outcome_told o).handed_out ≡ 0 → handed at o bytes buffer ≡ []
  unfolding handed outcome_told nothing_told
  hands-nothing (Err why) e = refl
  hands-nothing (Ok (OverLong from)) e = refl
  hands-nothing (Ok (Opened from)) e = refl
  hands-nothing (Ok (Taken from)) e = refl
  hands-nothing (Ok (Single from functional L)) e = absurd (omega (arith, e))
  hands-nothing (Ok (Train from L)) e = absurd (omega (arith, e))

  pub hands-one : (o : Result Outcome Refusal) → ((outcome_told o).handed_out ≡ 0 → ⊥) → HandsOut at o bytes buffer
  unfolding handed outcome_told nothing_told
  hands-one (Err why) n = absurd (n refl)
  hands-one (Ok (OverLong from)) n = absurd (n refl)
  hands-one (Ok (Opened from)) n = absurd (n refl)
  hands-one (Ok (Taken from)) n = absurd (n refl)
  hands-one (Ok (Single from functional L)) n = record {
    from = from;
    place = refl;
    hands = ap (λ (m : List ℕ). record { at = at; from = from; functional = functional; bytes = m } ∷ []) (told-shown bytes buffer (Ok (Single from functional L)));
  }
  hands-one (Ok (Train from L)) n = record {
    from = from;
    place = refl;
    hands = ap (λ (m : List ℕ). record { at = at; from = from; functional = false; bytes = m } ∷ []) (told-shown bytes buffer (Ok (Train from L)));
  }
