-- A reading: read out of an accepted input, and written as its 17 bytes (document 01, "Count sheet").
use Rattle.std.specs.Prelude.{◌≡◌, true, List, [], ◌∷◌, ◌++◌, ℕ, ◌+◌, ◌*◌, ◌/◌, ◌%◌, ◌≤◌, ◌<◌, get_or, length, take, drop}
use Rattle.server.specs.Mask.{sound_mask}
use Rattle.sheet.specs.Fields.{pair_at, sound_position}
use Rattle.sheet.specs.declared.reading.CountReading.{CountReading}

-- how many readings an accepted input has
unfoldable pub readings_in : List ℕ → ℕ
readings_in s = length s / 17

-- what stands in reading k of an accepted input, from 0
unfoldable pub reading_of : List ℕ → ℕ → CountReading
reading_of s k =
    record {
      position = get_or s (17 * k + 3) 0;
      mask = get_or s (17 * k + 7) 0;
      available = get_or s (17 * k + 13) 0;
      count = pair_at s (17 * k + 15);
    }

-- a reading written: its three fields, each a tag, a length high first, and a content
unfoldable pub reading_bytes : CountReading → List ℕ
reading_bytes r =
    (1 ∷ 0 ∷ 1 ∷ r.position ∷ [])
    ++ (2 ∷ 0 ∷ 1 ∷ r.mask ∷ [])
    ++ (3 ∷ 0 ∷ 6 ∷ 0x59 ∷ 0x01 ∷ r.available ∷ 0x03 ∷ r.count / 256 ∷ r.count % 256 ∷ [])

-- the bytes of a reading stand in an input at an offset
pub record Stands (s : List ℕ) (at : ℕ) (r : CountReading) : Type 0 where
  pub room : at + 17 ≤ length s
  pub bytes : take 17 (drop at s) ≡ reading_bytes r

-- readings written one after the other
unfoldable pub sheet_of : List CountReading → List ℕ
sheet_of [] = []
sheet_of (r ∷ rs) = reading_bytes r ++ sheet_of rs

-- the contents that a sheet may have
pub record Sound (r : CountReading) : Type 0 where
  pub position : sound_position r.position ≡ true
  pub masks : (r.mask < 256) × (r.available < 256)
  pub available : sound_mask r.available ≡ true
  pub count : r.count < 65536

pub data EachSound : List CountReading → Type 0 where
  none : EachSound []
  one : {r : CountReading} {rs : List CountReading} → Sound r → EachSound rs → EachSound (r ∷ rs)
