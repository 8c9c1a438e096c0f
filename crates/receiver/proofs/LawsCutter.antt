-- The cutter refuses, with 16, exactly where document 01 says, and then gives no frame; so does flow control.
use Rattle.std.specs.Prelude.{Err, Option, Some, None}
use Rattle.std.proofs.Common.{◌≡◌, ℕ, ◌<◌, ◌≤◌, Bool, true, false, eqb, leb, ◌⊎◌, List, length, replicate, sym, refl, inl, inr, arith, lt-ltb, eq-eqb, eqb-true, le-leb, leb-true, Result}
use Rattle.identifiers.specs.Choice.{pick, either}
use Rattle.identifiers.specs.Refusals.{refusal}
use Rattle.identifiers.proofs.LawsChoice.{by-test, pick_true, left-holds, right-holds}
use Rattle.identifiers.specs.declared.refusal.Refusal.{Refusal}
use Rattle.readings.specs.Positions.{position_at}
use Rattle.readings.specs.declared.position.Position.{Position}
use Rattle.readings.proofs.LawsPositions.{position_past, position-none}
use Rattle.receiver.specs.declared.cutter.FrameCut.{FrameCut}
use Rattle.receiver.specs.declared.outcome.Control.{Control}
use Rattle.receiver.specs.Cuts.{frame_count, no_frame, cut_told, piece_of, between, cut_of, flow_control_of, Uncut, empty, too_long, past_last, no_sender, no_receiver, same_position}
use Rattle.receiver.proofs.LawsPieces.{frames-none, none-else, between_first, between-second}
use Rattle.receiver.proofs.LawsOnWire.{headed-done}

-- where there is no frame, the answer says so
pub none-16 : no_frame ≡ Err (refusal 16)
unfolding no_frame
none-16 = refl

pub ruleset none_rules = (none-16)

-- a frame is none that is refused
abbrev IsDone : Result FrameCut Refusal → Type 0
IsDone c = (why : Refusal) → c ≡ Err why → ⊥

-- all its numbers but the refusal's are 0
pub none_told : cut_told no_frame ≡ record { refusal = 16; length = 0; identifier = 0; «data» = replicate 8 0 }
unfolding cut_told no_frame
none_told = refl

piece-done : (sender receiver : Position) (unit : ℕ) (message : List ℕ) (k : ℕ) → IsDone (piece_of sender receiver unit message k)
unfolding piece_of
piece-done sender receiver unit message k =
    (by-test {P = IsDone} _ (λ e. record { holds = headed-done sender receiver _ _ })
    (λ e. by-test _ (λ f. record { holds = headed-done sender receiver _ _ }) (λ f. record { holds = headed-done sender receiver _ _ }))).holds

-- flow control: "positions over 5 or equal"
module _ (control : Control) (from to unit : ℕ) where
  pub control-16 : (5 < from) ⊎ ((5 < to) ⊎ (from ≡ to)) → flow_control_of control from to unit ≡ no_frame
  unfolding flow_control_of
  control-16 (inl h) = none-else _ _ (between_first _ _ _ (position_past from h))
  control-16 (inr (inl h)) = none-else _ _ (between-second _ _ _ (position_past to h))
  control-16 (inr (inr e)) = pick_true _ _ (eq-eqb _ _ e)

module _ (message : List ℕ) (k from to unit : ℕ) where
  pub cut-16 : Uncut message k from to → cut_of message k from to unit ≡ no_frame
  unfolding cut_of
  cut-16 (same_position e) = pick_true _ _ (sym (left-holds _ (eq-eqb _ _ e)))
  cut-16 (past_last h) = pick_true _ _ (sym (right-holds _ (le-leb _ _ h)))
  cut-16 (empty e) =
      let n = frames-none (length message) (sym (left-holds _ (eq-eqb _ _ e))) in
      let l : frame_count (length message) ≤ k = omega arith in
      pick_true _ _ (sym (right-holds _ (le-leb _ _ l)))
  cut-16 (too_long h) =
      let n = frames-none (length message) (sym (right-holds _ (lt-ltb _ _ h))) in
      let l : frame_count (length message) ≤ k = omega arith in
      pick_true _ _ (sym (right-holds _ (le-leb _ _ l)))
  cut-16 (no_sender h) = none-else _ _ (between_first _ _ _ (position_past from h))
  cut-16 (no_receiver h) = none-else _ _ (between-second _ _ _ (position_past to h))

  -- everything else is cut
  between-refused : (v u : Option Position) → position_at from ≡ v → position_at to ≡ u → between v u (λ s r. piece_of s r unit message k) ≡ Err (refusal 16) → Uncut message k from to
  unfolding between
  between-refused None u a b e = no_sender (position-none from a)
  between-refused (Some s) None a b e = no_receiver (position-none to b)
  between-refused (Some s) (Some r) a b e = absurd (piece-done s r unit message k _ e)

  refused-uncut : (same past : Bool) → eqb from to ≡ same → leb (frame_count (length message)) k ≡ past
      → pick (either same past) no_frame (between (position_at from) (position_at to) (λ s r. piece_of s r unit message k)) ≡ Err (refusal 16) → Uncut message k from to
  unfolding pick either
  refused-uncut true past a b e = same_position (eqb-true _ _ a)
  refused-uncut false true a b e = past_last (leb-true _ _ b)
  refused-uncut false false a b e = between-refused (position_at from) (position_at to) refl refl e

  pub only-16 : cut_of message k from to unit ≡ Err (refusal 16) → Uncut message k from to
  unfolding cut_of
  only-16 e = refused-uncut _ _ refl refl e
