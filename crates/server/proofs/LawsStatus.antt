-- What a setting leaves behind: one law for each rung.
use mathlib.Core.Path.{◌≡◌, refl, ◌∙◌}
use mathlib.Core.Bool.{Bool, true, false}
use Prim.Native.Nat.{ℕ}
use lib.ListN.{set}
use Rattle.std.specs.Prelude.{Result, Ok, Err}
use Rattle.identifiers.specs.Refusals.{refusal}
use Rattle.identifiers.specs.declared.refusal.Refusal.{Refusal}
use Rattle.identifiers.proofs.LawsChoice.{pick_true, pick-false}
use Rattle.server.specs.Places.{place_among, held_among}
use Rattle.server.specs.Trailer.{sound_record, status_within, with_statuses}
use Rattle.server.specs.Status.{Setting, setting_of}
use Rattle.server.specs.declared.trailer.TrailerRecord.{TrailerRecord}

-- what stands as the rung says stands as the setting says
pub set-ends : {o p : Setting} {t : TrailerRecord} {a : Result (Unit {0}) Refusal} → o ≡ p → (t ≡ p.after) × (a ≡ p.answer) → (t ≡ o.after) × (a ≡ o.answer)
set-ends e h = rw e h

module _ (t : TrailerRecord) (code status : ℕ) where
  pub setting-1 : sound_record t ≡ false → setting_of t code status ≡ record { after = t; answer = Err (refusal 1) }
  unfolding setting_of
  setting-1 a = pick-false _ _ a

  pub setting-18 : sound_record t ≡ true → held_among t.codes t.count code ≡ false → setting_of t code status ≡ record { after = t; answer = Err (refusal 18) }
  unfolding setting_of
  setting-18 a b = pick_true _ _ a ∙ pick-false _ _ b

  pub setting-19 : sound_record t ≡ true → held_among t.codes t.count code ≡ true → status_within t.availability status ≡ false → setting_of t code status ≡ record { after = t; answer = Err (refusal 19) }
  unfolding setting_of
  setting-19 a b c = pick_true _ _ a ∙ pick_true _ _ b ∙ pick-false _ _ c

  pub setting-set : sound_record t ≡ true → held_among t.codes t.count code ≡ true → status_within t.availability status ≡ true
      → setting_of t code status ≡ record { after = with_statuses t (set t.statuses (place_among t.codes t.count code) status); answer = Ok tt }
  unfolding setting_of
  setting-set a b c = pick_true _ _ a ∙ pick_true _ _ b ∙ pick_true _ _ c

  -- of the record only the statuses can change
  pub statuses-alone : with_statuses t (setting_of t code status).after.statuses ≡ (setting_of t code status).after
  statuses-alone = go (sound_record t) (held_among t.codes t.count code) (status_within t.availability status) refl refl refl
    where
      go : (a b c : Bool) → sound_record t ≡ a → held_among t.codes t.count code ≡ b → status_within t.availability status ≡ c
          → with_statuses t (setting_of t code status).after.statuses ≡ (setting_of t code status).after
      go false b c e f g = rw (setting-1 e) refl
      go true false c e f g = rw (setting-18 e f) refl
      go true true false e f g = rw (setting-19 e f g) refl
      go true true true e f g = rw (setting-set e f g) refl
