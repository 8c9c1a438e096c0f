-- An accepted sheet is whole readings of 17 bytes, and an input of whole readings is accepted: by what the three fields of one reading have.
use Rattle.std.specs.Prelude.{Ok}
use mathlib.Core.Path.{◌≡◌, refl, sym, ◌∙◌}
use mathlib.Core.Bool.{true}
use mathlib.Core.List.{List}
use mathlib.Core.Logic.{◌⊎◌, inl, inr, ⊎_elim}
use Prim.Native.Nat.{ℕ, zero, suc, ◌+◌, ◌*◌, ◌/◌, ◌%◌, ◌≤◌, ◌<◌}
use native.Mathlib.Omega.{arith}
use lib.ListN.{length, get_or}
use Rattle.sheet.specs.Fields.{size_of, sound_position, sound_response, field_read}
use Rattle.sheet.specs.Sheets.{field_offset, field_tag, field_at, fields_begun, sheet_read}
use Rattle.sheet.specs.Readings.{readings_in}
use Rattle.sheet.proofs.LawsFields.{size-response, size-other, content-position, content-response, content-mask, content-stands, Head, sound-field, sound-head, head-accepted}
use Rattle.sheet.proofs.LawsSheets.{first-each, sheet-fields, accepted-fields}

-- ---- the three fields of a reading
pub record Whole (s : List ℕ) (at : ℕ) : Type 0 where
  pub room : at + 17 ≤ length s
  pub first : Head s at 1 1
  pub second : Head s (at + 4) 2 1
  pub third : Head s (at + 8) 3 6
  pub position : sound_position (get_or s (at + 3) 0) ≡ true
  pub response : sound_response s (at + 8 + 3) ≡ true

pub one_size : size_of 1 ≡ 1
one_size = size-other 1 (λ (e : 1 ≡ 3). omega arith)

pub two_size : size_of 2 ≡ 1
two_size = size-other 2 (λ (e : 2 ≡ 3). omega arith)

pub three-size : size_of 3 ≡ 6
three-size = size-response 3 refl

three-fields-whole : (s : List ℕ) (at : ℕ) → field_read s at 1 ≡ Ok tt → field_read s (at + 4) 2 ≡ Ok tt → field_read s (at + 8) 3 ≡ Ok tt → Whole s at
three-fields-whole s at a b c =
    let p = sound-field s at 1 a in
    let m = sound-field s (at + 4) 2 b in
    let r = sound-field s (at + 8) 3 c in
    record {
      room = omega (arith, content-stands s (at + 8) 3 r.whole r.form, three-size);
      first = sound-head s at 1 1 one_size (omega arith) p;
      second = sound-head s (at + 4) 2 1 two_size (omega arith) m;
      third = sound-head s (at + 8) 3 6 three-size (omega arith) r;
      position = sym (content-position s (at + 3) 1 refl) ∙ p.content;
      response = sym (content-response s (at + 8 + 3) 3 refl) ∙ r.content;
    }

pub whole-first : (s : List ℕ) (at : ℕ) → Whole s at → field_read s at 1 ≡ Ok tt
whole-first s at w = head-accepted s at 1 1 one_size (omega (arith, w.room)) (content-position s (at + 3) 1 refl ∙ w.position) w.first

pub whole-second : (s : List ℕ) (at : ℕ) → Whole s at → field_read s (at + 4) 2 ≡ Ok tt
whole-second s at w =
    head-accepted s (at + 4) 2 1 two_size (omega (arith, w.room)) (content-mask s (at + 4 + 3) 2 (λ (e : 2 ≡ 1). omega arith) (λ (e : 2 ≡ 3). omega arith)) w.second

pub whole-third : (s : List ℕ) (at : ℕ) → Whole s at → field_read s (at + 8) 3 ≡ Ok tt
whole-third s at w = head-accepted s (at + 8) 3 6 three-size (omega (arith, w.room)) (content-response s (at + 8 + 3) 3 refl ∙ w.response) w.third

-- ---- every field of the input is one of the three of a reading
pub by_three : {A : Type 0} (m : ℕ) → m < 3 → (m ≡ 0 → A) → (m ≡ 1 → A) → (m ≡ 2 → A) → A
by_three zero h a b c = a refl
by_three (suc zero) h a b c = b refl
by_three (suc (suc zero)) h a b c = c refl
by_three (suc (suc (suc m))) h a b c = absurd (omega arith)

field_is : (s : List ℕ) (j at tag : ℕ) → at ≡ 17 * (j / 3) + 4 * (j % 3) → tag ≡ j % 3 + 1 → field_at s j ≡ field_read s at tag
unfolding field_at field_offset field_tag
field_is s j at tag a t = rw (a, t)

pub reading-field : (s : List ℕ) (k m at tag : ℕ) → sheet_read s ≡ Ok tt → 17 * k < length s → m < 3 → at ≡ 17 * k + 4 * m → tag ≡ m + 1 → field_read s at tag ≡ Ok tt
unfolding fields_begun
reading-field s k m at tag e l h a t =
    let place : at ≡ 17 * ((3 * k + m) / 3) + 4 * ((3 * k + m) % 3) = omega arith in
    let tagged : tag ≡ (3 * k + m) % 3 + 1 = omega arith in
    sym (field_is s (3 * k + m) at tag place tagged) ∙ accepted-fields s e (3 * k + m) (omega arith)

begun-whole : (s : List ℕ) (k : ℕ) → sheet_read s ≡ Ok tt → 17 * k < length s → Whole s (17 * k)
begun-whole s k e l =
    three-fields-whole s (17 * k) (reading-field s k 0 (17 * k) 1 e l (omega arith) (omega arith) refl)
    (reading-field s k 1 (17 * k + 4) 2 e l (omega arith) (omega arith) refl)
    (reading-field s k 2 (17 * k + 8) 3 e l (omega arith) (omega arith) refl)

pub accepted-whole : (s : List ℕ) (k : ℕ) → sheet_read s ≡ Ok tt → k < readings_in s → Whole s (17 * k)
unfolding readings_in
accepted-whole s k e l = begun-whole s k e (omega arith)

-- an accepted input has no byte past its last whole reading
pub accepted-length : (s : List ℕ) → sheet_read s ≡ Ok tt → length s ≡ 17 * readings_in s
unfolding readings_in
accepted-length s e =
    ⊎_elim (λ (q : length s % 17 ≡ 0). omega arith)
    (λ (q : 0 < length s % 17). let w = begun-whole s (length s / 17) e (omega arith) in omega (arith, w.room)) (zero-or-more (length s % 17))
  where
    zero-or-more : (n : ℕ) → (n ≡ 0) ⊎ (0 < n)
    zero-or-more zero = inl refl
    zero-or-more (suc n) = inr (omega arith)

-- and an input of whole readings is accepted
pub whole-accepted : (s : List ℕ) (n : ℕ) → length s ≡ 17 * n → n ≤ 3855 → ((k : ℕ) → k < n → Whole s (17 * k)) → sheet_read s ≡ Ok tt
unfolding fields_begun
whole-accepted s n e l w = sheet-fields s (omega arith) ∙ first-each (field_at s) (fields_begun s) field
  where
    field : (j : ℕ) → j < 3 * ((length s + 16) / 17) → field_at s j ≡ Ok tt
    field j h =
        let here = w (j / 3) (omega arith) in
        by_three (j % 3) (omega arith)
        (λ (q : j % 3 ≡ 0). field_is s j (17 * (j / 3)) 1 (omega arith) (omega arith) ∙ whole-first s _ here)
        (λ (q : j % 3 ≡ 1). field_is s j (17 * (j / 3) + 4) 2 (omega arith) (omega arith) ∙ whole-second s _ here)
        (λ (q : j % 3 ≡ 2). field_is s j (17 * (j / 3) + 8) 3 (omega arith) (omega arith) ∙ whole-third s _ here)
