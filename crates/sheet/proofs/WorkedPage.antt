-- Pages of one mask, computed by the definitions that the contract cites. Readings are given as position, mask, available, count.
use mathlib.Core.Path.{◌≡◌, refl, ap, ◌∙◌}
use mathlib.Core.Bool.{true}
use mathlib.Core.Logic.{inl}
use mathlib.Core.List.{List, [], ◌∷◌, ◌++◌}
use Prim.Native.Nat.{ℕ, ◌<◌}
use native.Mathlib.Omega.{arith}
use Rattle.identifiers.specs.Choice.{both, pick}
use Rattle.text.specs.Digits.{decimal_in, hex_digit, hex}
use Rattle.server.specs.Mask.{sound_mask}
use Rattle.server.proofs.LawsMask.{mask-rule}
use Rattle.order.specs.Order.{keep, by_key}
use Rattle.order.proofs.LawsEach.{each_keep}
use Rattle.order.proofs.LawsEach.Each.{none as no_more, one as and}
use Rattle.order.proofs.LawsKeep.{by-enough}
use Rattle.sheet.specs.Basis.{basis_of}
use Rattle.sheet.specs.Fields.{sound_position}
use Rattle.sheet.specs.Readings.{sheet_of, Sound, EachSound, none, one}
use Rattle.sheet.specs.Text.{header, word_of, numbers_of, line_of}
use Rattle.sheet.specs.Ranked.{is_full, asks, ranks, excludes, lines, ranked_text}
use Rattle.sheet.specs.declared.reading.CountReading.{CountReading}
use Rattle.sheet.proofs.Worked.{sound-7F}
use Rattle.sheet.proofs.RankedReadings.{written-page}

abbrev reading : ℕ → ℕ → ℕ → ℕ → CountReading
reading position mask available count = record { position = position; mask = mask; available = available; count = count }

abbrev mixed : List CountReading
mixed = reading 3 0x0C 0x7F 9 ∷ reading 1 0x0C 0x49 0 ∷ reading 2 0x0C 0x7F 4 ∷ reading 5 0x08 0x7F 1 ∷ reading 4 0x0C 0x7F 4 ∷ []

sound-49 : sound_mask 0x49 ≡ true
sound-49 = (mask-rule 0x49).1 (refl, ((λ (e : ◌≡◌ {A = ℕ} 0 4). omega arith), inl refl))

supports : (p m a c : ℕ) → sound_position p ≡ true → (m < 256) × (a < 256) → sound_mask a ≡ true → c < 65536 → Sound (reading p m a c)
supports p m a c e l h n = record { position = e; masks = l; available = h; count = n }

mixed-sound : EachSound mixed
unfolding sound_position both
mixed-sound =
    one (supports 3 0x0C 0x7F 9 refl (omega arith) sound-7F (omega arith))
    (one (supports 1 0x0C 0x49 0 refl (omega arith) sound-49 (omega arith))
    (one (supports 2 0x0C 0x7F 4 refl (omega arith) sound-7F (omega arith))
    (one (supports 5 0x08 0x7F 1 refl (omega arith) sound-7F (omega arith)) (one (supports 4 0x0C 0x7F 4 refl (omega arith) sound-7F (omega arith)) none))))

pub record WorkedPage : Type 0 where
  -- "2 0C 7F 4 full", "4 0C 7F 4 full", "3 0C 7F 9 full", "1 0C 49 0 part"
  pub page-0C : ranked_text (sheet_of mixed) 0x0C
      ≡ header
      ++ (50 ∷ 32 ∷ 48 ∷ 67 ∷ 32 ∷ 55 ∷ 70 ∷ 32 ∷ 52 ∷ 32 ∷ 102 ∷ 117 ∷ 108 ∷ 108 ∷ 10 ∷ [])
      ++ (52 ∷ 32 ∷ 48 ∷ 67 ∷ 32 ∷ 55 ∷ 70 ∷ 32 ∷ 52 ∷ 32 ∷ 102 ∷ 117 ∷ 108 ∷ 108 ∷ 10 ∷ [])
      ++ (51 ∷ 32 ∷ 48 ∷ 67 ∷ 32 ∷ 55 ∷ 70 ∷ 32 ∷ 57 ∷ 32 ∷ 102 ∷ 117 ∷ 108 ∷ 108 ∷ 10 ∷ [])
      ++ (49 ∷ 32 ∷ 48 ∷ 67 ∷ 32 ∷ 52 ∷ 57 ∷ 32 ∷ 48 ∷ 32 ∷ 112 ∷ 97 ∷ 114 ∷ 116 ∷ 10 ∷ [])
  -- "5 08 7F 1 full"
  pub page-08 : ranked_text (sheet_of mixed) 0x08 ≡ header ++ (53 ∷ 32 ∷ 48 ∷ 56 ∷ 32 ∷ 55 ∷ 70 ∷ 32 ∷ 49 ∷ 32 ∷ 102 ∷ 117 ∷ 108 ∷ 108 ∷ 10 ∷ [])
  -- a mask that no reading has, and the empty sheet: the header
  pub page-00 : ranked_text (sheet_of mixed) 0x00 ≡ header
  pub empty-page : ranked_text [] 0x0C ≡ header

few : (mask : ℕ) → by_key (λ r. r.count) 65536 (keep (ranks mask) mixed) ≡ by_key (λ r. r.count) 10 (keep (ranks mask) mixed)
few mask =
    by-enough (λ r. r.count) 10 65536 (keep (ranks mask) mixed)
    (each_keep (ranks mask) (and (omega arith) (and (omega arith) (and (omega arith) (and (omega arith) (and (omega arith) no_more))))))
    (omega arith)

page-is : (mask : ℕ) → ranked_text (sheet_of mixed) mask ≡ header ++ lines (by_key (λ r. r.count) 10 (keep (ranks mask) mixed) ++ keep (excludes mask) mixed)
page-is mask = written-page mixed mask mixed-sound (omega arith) ∙ ap (λ (rs : List CountReading). header ++ lines (rs ++ keep (excludes mask) mixed)) (few mask)

pub worked-page : WorkedPage
unfolding both pick basis_of is_full asks ranks excludes keep by_key decimal_in hex_digit hex word_of numbers_of line_of lines sheet_of
worked-page = record {
  page-0C = page-is 0x0C;
  page-08 = page-is 0x08;
  page-00 = page-is 0x00;
  empty-page = written-page [] 0x0C none (omega arith) ∙ ap (λ (rs : List CountReading). header ++ lines (rs ++ [])) (by-enough (λ r. r.count) 0 65536 [] no_more (omega arith));
}
