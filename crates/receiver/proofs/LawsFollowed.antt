-- A consecutive frame, one law a rung: nothing open, too short, a wrong number, late, taken, the last.
use Rattle.std.proofs.Common.{◌≡◌, ℕ, suc, ◌+◌, ◌-◌, ◌*◌, ◌%◌, ◌^◌, ◌<◌, ◌≤◌, min, true, eqb, ◌≢◌, refl, ◌∙◌, add-one, arith, le-ltb, lt-ltb, eq-eqb, ne_eqb, Ok, Err}
use Rattle.identifiers.specs.Choice.{pick}
use Rattle.identifiers.specs.Refusals.{refusal}
use Rattle.identifiers.proofs.LawsChoice.{pick_true, pick-false}
use Rattle.readings.specs.declared.position.Position.{Position}
use Rattle.receiver.specs.declared.reception.Reception.{Reception}
use Rattle.receiver.specs.declared.frame.Judged.TheVariants.{Consecutive}
use Rattle.receiver.specs.declared.outcome.Outcome.TheVariants.{Taken, Train}
use Rattle.receiver.specs.Receptions.{closed, open_with, region_at}
use Rattle.receiver.specs.Steps.{gap_of, leaving, closing, done_of, left_of, taken_step, followed, step_of}

-- of any reception
pub consecutive-step : (r : Reception) (from : Position) (number count stamp : ℕ) → step_of r (Ok (Consecutive from number)) count stamp ≡ followed r from number count stamp
unfolding step_of
consecutive-step r from number count stamp = refl

-- 12 "consecutive, nothing open"
pub nothing-open : (from : Position) (number count stamp : ℕ) → followed closed from number count stamp ≡ leaving closed (Err (refusal 12))
unfolding followed pick
nothing-open from number count stamp = refl

module _ (L k t : ℕ) (from : Position) (number count stamp : ℕ) (is_open : L ≢ 0) where
  abbrev m : ℕ
  m = min 6 (L - (5 + 6 * k))

  pub followed-short : count < 2 + m → followed (open_with L k t) from number count stamp ≡ leaving (open_with L k t) (Err (refusal 9))
  unfolding followed left_of done_of
  followed-short h = pick-false _ _ (ne_eqb _ _ is_open) ∙ pick_true _ _ (lt-ltb _ _ h)

  module _ (enough : 2 + m ≤ count) where
    pub followed-wrong : number ≢ suc k % 16 → followed (open_with L k t) from number count stamp ≡ closing (Err (refusal 13))
    unfolding followed left_of done_of
    followed-wrong h =
        let n : number ≢ (k + 1) % 16 = rw (add-one k) h in
        pick-false _ _ (ne_eqb _ _ is_open) ∙ pick-false _ _ (le-ltb _ _ enough) ∙ pick-false _ _ (ne_eqb _ _ n)

    module _ (in_order : number ≡ suc k % 16) where
      at-number : eqb number ((k + 1) % 16) ≡ true
      at-number = rw (add-one k) (eq-eqb _ _ in_order)

      pub followed-late : 150 < gap_of stamp t → followed (open_with L k t) from number count stamp ≡ closing (Err (refusal 14))
      unfolding followed left_of done_of
      followed-late h = pick-false _ _ (ne_eqb _ _ is_open) ∙ pick-false _ _ (le-ltb _ _ enough) ∙ pick_true _ _ at-number ∙ pick_true _ _ (lt-ltb _ _ h)

      module _ (in_time : gap_of stamp t ≤ 150) where
        pub followed-taken : followed (open_with L k t) from number count stamp ≡ taken_step (open_with L k t) from stamp
        unfolding followed left_of done_of
        followed-taken = pick-false _ _ (ne_eqb _ _ is_open) ∙ pick-false _ _ (le-ltb _ _ enough) ∙ pick_true _ _ at-number ∙ pick-false _ _ (le-ltb _ _ in_time)

        pub followed-on : 6 < L - (5 + 6 * k) → followed (open_with L k t) from number count stamp
            ≡ record { reception = open_with L (suc k) stamp; at = region_at from + (5 + 6 * k); start = 2; count = 6; outcome = Ok (Taken from) }
        unfolding taken_step left_of done_of
        followed-on h = followed-taken ∙ pick_true _ _ (lt-ltb _ _ h) ∙ rw (add-one k)

        pub followed-last : L - (5 + 6 * k) ≤ 6 → followed (open_with L k t) from number count stamp
            ≡ record { reception = closed; at = region_at from + (5 + 6 * k); start = 2; count = L - (5 + 6 * k); outcome = Ok (Train from L) }
        unfolding taken_step left_of done_of
        followed-last h = followed-taken ∙ pick-false _ _ (le-ltb _ _ h)

-- "the gap is later minus earlier modulo 2^32"
module _ (later earlier : ℕ) where
  pub gap-on : earlier ≤ later → later < 2 ^ 32 → gap_of later earlier ≡ later - earlier
  unfolding gap_of
  gap-on h l = omega arith

  -- "so a stamp that goes back is late": by up to 2^32 - 151
  pub gap_back : later < earlier → earlier < 2 ^ 32 → gap_of later earlier ≡ 2 ^ 32 - (earlier - later)
  unfolding gap_of
  gap_back h l = omega arith
