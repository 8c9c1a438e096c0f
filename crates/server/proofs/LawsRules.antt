-- A record is taken for sound exactly where it keeps its rules, and is else refused with 1.
use mathlib.Core.Path.{◌≡◌}
use mathlib.Core.Bool.{true}
use mathlib.Core.List.{List}
use mathlib.Core.Logic.{◌↔◌}
use Prim.Native.Nat.{ℕ, ◌+◌, ◌-◌, ◌<◌}
use native.Mathlib.Omega.{arith}
use borrow.Author.Tests.{ltb-true, eqb-true, lt-ltb, le-leb, eq-eqb}
use lib.ListN.{get_or}
use Rattle.identifiers.specs.Choice.{both}
use Rattle.identifiers.proofs.LawsBelow.{all-at, all-each}
use Rattle.server.specs.Trailer.{ascending, codes_below, status_within, statuses_within, length_within, lengths_within, sound_record}
use Rattle.server.specs.Rules.{KeepsRules}
use Rattle.server.specs.declared.trailer.TrailerRecord.{TrailerRecord}
use Rattle.server.proofs.LawsMask.{mask-rule}
use Rattle.server.proofs.LawsTrailer.{Sound, sound-has, sound-from, length-within}

ascends : (numbers : List ℕ) (n : ℕ) → ascending numbers n ≡ true ↔ ((i : ℕ) → i + 1 < n → get_or numbers i 0 < get_or numbers (i + 1) 0)
unfolding ascending
ascends numbers n = (λ e i l. ltb-true _ _ (all-at _ i (n - 1) e (omega arith)), λ h. all-each _ (n - 1) (λ i l. lt-ltb _ _ (h i (omega arith))))

module _ (t : TrailerRecord) where
  keeps : Sound t → KeepsRules t
  unfolding codes_below statuses_within status_within
  keeps s =
      let m = (mask-rule t.availability).0 s.mask in
      record {
        count = s.count;
        codes = λ i l. ltb-true _ _ (all-at _ i t.count s.codes l);
        codes_ascend = (ascends t.codes t.count).0 s.ascend;
        statuses = λ i l. eqb-true _ _ (all-at _ i t.count s.statuses l);
        mask_set = m.0;
        mask_2 = m.1.0;
        mask_45 = m.1.1;
        held = s.held;
        identifiers_ascend = (ascends t.identifiers t.held).0 s.identifiers;
        lengths = λ k. length-within t k s.lengths;
      }

  sound : KeepsRules t → Sound t
  unfolding codes_below statuses_within status_within lengths_within length_within both
  sound k =
      record {
        count = k.count;
        held = k.held;
        mask = (mask-rule t.availability).1 (k.mask_set, (k.mask_2, k.mask_45));
        codes = all-each _ t.count (λ i l. lt-ltb _ _ (k.codes i l));
        ascend = (ascends t.codes t.count).1 k.codes_ascend;
        statuses = all-each _ t.count (λ i l. eq-eqb _ _ (k.statuses i l));
        identifiers = (ascends t.identifiers t.held).1 k.identifiers_ascend;
        lengths = all-each _ t.held (λ i l. rw (le-leb _ _ (k.lengths i l).0) (le-leb _ _ (k.lengths i l).1));
      }

  pub sound-exactly : sound_record t ≡ true ↔ KeepsRules t
  sound-exactly = (λ e. keeps (sound-has t e), λ k. sound-from t (sound k))
