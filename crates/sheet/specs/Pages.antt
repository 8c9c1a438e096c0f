-- What the page of one mask is, sentence by sentence and without a way to it (document 02, 2026-01).
use Rattle.std.specs.Prelude.{◌≡◌, List, ◌++◌, ◌↔◌, ℕ, ◌≤◌, ◌<◌, eqb}
use Rattle.identifiers.specs.Choice.{pick}
use Rattle.order.specs.Ranks.{times, Before, Behind}
use Rattle.sheet.specs.Basis.{basis_of}
use Rattle.sheet.specs.Readings.{readings_in, reading_of}
use Rattle.sheet.specs.declared.basis.Basis.{Basis}
use Rattle.sheet.specs.declared.basis.Basis.TheVariants.{Full}

abbrev pub mask_at : List ℕ → ℕ → ℕ
mask_at s k = (reading_of s k).mask

abbrev pub count_at : List ℕ → ℕ → ℕ
count_at s k = (reading_of s k).count

abbrev pub basis_at : List ℕ → ℕ → Basis
basis_at s k = basis_of (reading_of s k).mask (reading_of s k).available

-- above are the places of the page's ranked lines, and below those of its excluded ones, from the page's top on
pub record Page (s : List ℕ) (mask : ℕ) (above below : List ℕ) : Type 0 where
  -- "Every reading of that mask appears once; readings of other masks don't appear."
  pub appears_once : (k : ℕ) → k < readings_in s → times k (above ++ below) ≡ pick (eqb (mask_at s k) mask) 1 0
  pub nothing_else : (k : ℕ) → readings_in s ≤ k → times k (above ++ below) ≡ 0
  -- "the readings of one asked mask whose basis is full"
  pub ranked_exactly : (k : ℕ) → k < readings_in s → (0 < times k above) ↔ ((mask_at s k ≡ mask) × (basis_at s k ≡ Full))
  -- "lowest count first, equal counts by place in the sheet"
  pub lowest_first : (i j : ℕ) → Behind above i j → Before (count_at s) i j
  -- "and then the excluded ones in sheet order"
  pub sheet_order : (i j : ℕ) → Behind below i j → i < j
