-- A count is not judged: any two bytes behind the first fifteen of a sound reading are its count. And a sound reading without its first
-- byte, or its first two, begins no reading, whatever stands behind it.
use Rattle.std.specs.Prelude.{Ok}
use mathlib.Core.Path.{◌≡◌, refl, sym, ap, ◌∙◌}
use mathlib.Core.List.{List, [], ◌∷◌, ◌++◌, append-nil}
use Prim.Native.Nat.{ℕ, ◌+◌, ◌*◌, ◌/◌, ◌%◌, ◌<◌}
use native.Mathlib.Omega.{arith}
use lib.ListN.{length, get_or, take, drop}
use Rattle.sheet.specs.Sheets.{sheet_read}
use Rattle.sheet.specs.Readings.{readings_in, reading_bytes, sheet_of, Sound, none, one}
use Rattle.sheet.specs.declared.reading.CountReading.{CountReading}
use Rattle.sheet.proofs.LawsFields.{position-range}
use Rattle.sheet.proofs.LawsReadings.{accepted-whole, accepted-length}
use Rattle.sheet.proofs.CountSheet.{written-sheet}

-- a reading with another count
abbrev counting : CountReading → ℕ → CountReading
counting r n = record { position = r.position; mask = r.mask; available = r.available; count = n }

counting-sound : (r : CountReading) (n : ℕ) → Sound r → n < 65536 → Sound (counting r n)
counting-sound r n h l = record { position = h.position; masks = h.masks; available = h.available; count = l }

counted : (r : CountReading) (high low : ℕ) → low < 256 → take 15 (reading_bytes r) ++ (high ∷ low ∷ []) ≡ reading_bytes (counting r (high * 256 + low))
unfolding reading_bytes
counted r high low l =
    let h : high ≡ (high * 256 + low) / 256 = omega arith in
    let m : low ≡ (high * 256 + low) % 256 = omega arith in
    cc

pub length_front : (r : CountReading) → length (take 15 (reading_bytes r)) ≡ 15
unfolding reading_bytes
length_front r = refl

pub any-count : (r : CountReading) (high low : ℕ) → Sound r → high < 256 → low < 256 → sheet_read (take 15 (reading_bytes r) ++ (high ∷ low ∷ [])) ≡ Ok tt
unfolding sheet_of
any-count r high low h a b =
    let q = counting r (high * 256 + low) in
    ap sheet_read (counted r high low b ∙ sym (append-nil (reading_bytes q)))
    ∙ (written-sheet (q ∷ []) (one (counting-sound r (high * 256 + low) h (omega arith)) none) (omega arith)).accepted

-- ---- the bytes of a reading: its first two, and the high byte of its count
pub first_two : (q : CountReading) → reading_bytes q ≡ 1 ∷ 0 ∷ drop 2 (reading_bytes q)
unfolding reading_bytes
first_two q = refl

pub second : (q : CountReading) → drop 1 (reading_bytes q) ≡ 0 ∷ drop 2 (reading_bytes q)
unfolding reading_bytes
second q = refl

pub third : (q : CountReading) → drop 2 (reading_bytes q) ≡ 1 ∷ drop 3 (reading_bytes q)
unfolding reading_bytes
third q = refl

pub before_last : (r : CountReading) → Sound r → (take 16 (reading_bytes r) ≡ take 15 (reading_bytes r) ++ (r.count / 256 ∷ [])) × (r.count / 256 < 256)
unfolding reading_bytes
before_last r h = (refl, omega (arith, h.count))

-- ---- what an accepted sheet begins with
begins-with : (s : List ℕ) → sheet_read s ≡ Ok tt → 0 < length s → (get_or s 0 0 ≡ 1) × (get_or s 1 0 ≡ 0)
unfolding readings_in
begins-with s e l = let w = accepted-whole s 0 e (omega (arith, accepted-length s e)) in (w.first.tagged, w.first.high)

pub without-first : (q : CountReading) (rest : List ℕ) → sheet_read (take 17 (drop 1 (reading_bytes q) ++ rest)) ≡ Ok tt → ⊥
unfolding reading_bytes
without-first q rest e = let h : ◌≡◌ {A = ℕ} 0 1 = (begins-with (take 17 (drop 1 (reading_bytes q) ++ rest)) e (omega arith)).0 in omega arith

pub without-two : (q : CountReading) (rest : List ℕ) → Sound q → sheet_read (take 17 (drop 2 (reading_bytes q) ++ rest)) ≡ Ok tt → ⊥
unfolding reading_bytes
without-two q rest h e =
    let zero-position : q.position ≡ 0 = (begins-with (take 17 (drop 2 (reading_bytes q) ++ rest)) e (omega arith)).1 in
    omega (arith, (position-range q.position h.position).0)
