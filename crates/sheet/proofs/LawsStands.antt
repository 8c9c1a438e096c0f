-- The bytes of a reading where they stand in an input: whole readings are the written ones, and sound readings that are written are read back.
use mathlib.Core.Path.{◌≡◌, refl, sym, ap, ◌∙◌}
use mathlib.Core.Bool.{true}
use mathlib.Core.List.{List, [], ◌∷◌, ◌++◌}
use Prim.Native.Nat.{ℕ, zero, suc, ◌+◌, ◌*◌, ◌/◌, ◌%◌, ◌≤◌, ◌<◌}
use native.Mathlib.Omega.{arith}
use borrow.Author.Tests.{eqb-true, eq-eqb}
use lib.ListN.{length, get_or, take, drop, length-append}
use lib.Seq.{drop-cons, take-add, drop-append-add, get_or-take, get_or-drop}
use Rattle.identifiers.specs.Below.{list_below}
use Rattle.identifiers.proofs.LawsChoice.{both_true, so}
use Rattle.identifiers.proofs.LawsBelow.{list-none, list-suc}
use Rattle.server.specs.Mask.{sound_mask}
use Rattle.sheet.specs.Fields.{pair_at, sound_position, sound_response}
use Rattle.sheet.specs.Readings.{reading_of, reading_bytes, Stands, sheet_of, Sound, EachSound, one}
use Rattle.sheet.specs.declared.reading.CountReading.{CountReading}
use Rattle.sheet.proofs.LawsReadings.{Whole}

-- ---- the bytes of a reading
-- n bytes of an input, from place i of an offset on
run : List ℕ → ℕ → ℕ → ℕ → List ℕ
run s at i zero = []
run s at i (suc n) = get_or s (at + i) 0 ∷ run s at (suc i) n

run_is : (s : List ℕ) (at i n : ℕ) → at + i + n ≤ length s → take n (drop (at + i) s) ≡ run s at i n
unfolding run
run_is s at i zero h = refl
run_is s at i (suc n) h =
    let next : suc (at + i) ≡ at + suc i = omega arith in
    rw (drop-cons s (at + i) 0 (omega arith)) (ap (λ (l : List ℕ). get_or s (at + i) 0 ∷ l) (ap (λ (k : ℕ). take n (drop k s)) next ∙ run_is s at (suc i) n (omega arith)))

moved : (s : List ℕ) (p q v : ℕ) → q ≡ p → get_or s p 0 ≡ v → get_or s q 0 ≡ v
moved s p q v e h = rw e h

record Response (s : List ℕ) (at : ℕ) : Type 0 where
  service : get_or s at 0 ≡ 0x59
  sub : get_or s (at + 1) 0 ≡ 0x01
  format : get_or s (at + 3) 0 ≡ 0x03
  mask : sound_mask (get_or s (at + 2) 0) ≡ true

response-is : (s : List ℕ) (at : ℕ) → sound_response s at ≡ true → Response s at
unfolding sound_response
response-is s at e =
    let a = both_true _ _ e in
    let b = both_true _ _ a.1 in
    let c = both_true _ _ b.1 in
    record { service = eqb-true _ _ a.0; sub = eqb-true _ _ b.0; format = eqb-true _ _ c.0; mask = c.1 }

is-response : (s : List ℕ) (at : ℕ) → Response s at → sound_response s at ≡ true
unfolding sound_response
is-response s at r = sym (so (eq-eqb _ _ r.service) (so (eq-eqb _ _ r.sub) (so (eq-eqb _ _ r.format) (sym r.mask))))

high-byte : (h l : ℕ) → l < 256 → h ≡ (h * 256 + l) / 256
high-byte h l b = omega arith

low_byte : (h l : ℕ) → l < 256 → l ≡ (h * 256 + l) % 256
low_byte h l b = omega arith

-- the bytes of the input, as those of every input of the program are
abbrev pub Bytes : List ℕ → Type 0
Bytes s = (i : ℕ) → get_or s i 0 < 256

pub whole-stands : (s : List ℕ) (k : ℕ) → Bytes s → Whole s (17 * k) → Stands s (17 * k) (reading_of s k)
unfolding run reading_bytes reading_of
whole-stands s k b w =
    let r = response-is s (17 * k + 8 + 3) w.response in
    let b0 : get_or s (17 * k + 0) 0 ≡ 1 = moved s _ _ _ (omega arith) w.first.tagged in
    let b1 : get_or s (17 * k + 1) 0 ≡ 0 = w.first.high in
    let b2 : get_or s (17 * k + 2) 0 ≡ 1 = w.first.low in
    let b4 : get_or s (17 * k + 4) 0 ≡ 2 = w.second.tagged in
    let b5 : get_or s (17 * k + 5) 0 ≡ 0 = moved s _ _ _ (omega arith) w.second.high in
    let b6 : get_or s (17 * k + 6) 0 ≡ 1 = moved s _ _ _ (omega arith) w.second.low in
    let b8 : get_or s (17 * k + 8) 0 ≡ 3 = w.third.tagged in
    let b9 : get_or s (17 * k + 9) 0 ≡ 0 = moved s _ _ _ (omega arith) w.third.high in
    let b10 : get_or s (17 * k + 10) 0 ≡ 6 = moved s _ _ _ (omega arith) w.third.low in
    let b11 : get_or s (17 * k + 11) 0 ≡ 0x59 = moved s _ _ _ (omega arith) r.service in
    let b12 : get_or s (17 * k + 12) 0 ≡ 0x01 = moved s _ _ _ (omega arith) r.sub in
    let b14 : get_or s (17 * k + 14) 0 ≡ 0x03 = moved s _ _ _ (omega arith) r.format in
    let b15 : get_or s (17 * k + 15) 0 ≡ pair_at s (17 * k + 15) / 256 = high-byte _ _ (b (17 * k + 15 + 1)) in
    let b16 : get_or s (17 * k + 16) 0 ≡ pair_at s (17 * k + 15) % 256 = moved s (17 * k + 15 + 1) _ _ (omega arith) (low_byte _ _ (b (17 * k + 15 + 1))) in
    let start : 17 * k ≡ 17 * k + 0 = omega arith in
    let same : run s (17 * k) 0 17 ≡ reading_bytes (reading_of s k) = cc in
    record { room = w.room; bytes = ap (λ (p : ℕ). take 17 (drop p s)) start ∙ run_is s (17 * k) 0 17 (omega (arith, w.room)) ∙ same }

pub whole-sound : (s : List ℕ) (k : ℕ) → Bytes s → Whole s (17 * k) → Sound (reading_of s k)
unfolding reading_of
whole-sound s k b w =
    let r = response-is s (17 * k + 8 + 3) w.response in
    let place : 17 * k + 13 ≡ 17 * k + 8 + 3 + 2 = omega arith in
    record { position = w.position; masks = (b (17 * k + 7), b (17 * k + 13)); available = rw place r.mask; count = omega (arith, b (17 * k + 15), b (17 * k + 15 + 1)) }

-- ---- readings that were written
stands-byte : (s : List ℕ) (at : ℕ) (r : CountReading) → Stands s at r → (i p : ℕ) → p ≡ at + i → i < 17 → get_or s p 0 ≡ get_or (reading_bytes r) i 0
stands-byte s at r h i p e l =
    ap (λ (q : ℕ). get_or s q 0) e ∙ sym (get_or-drop at s i 0) ∙ sym (get_or-take 17 (drop at s) i 0 l) ∙ ap (λ (x : List ℕ). get_or x i 0) h.bytes

pub stands-whole : (s : List ℕ) (at : ℕ) (r : CountReading) → Sound r → Stands s at r → Whole s at
unfolding reading_bytes
stands-whole s at r o h =
    let byte = stands-byte s at r h in
    record {
      room = h.room;
      first = record { tagged = byte 0 at (omega arith) (omega arith); high = byte 1 (at + 1) refl (omega arith); low = byte 2 (at + 2) refl (omega arith) };
      second = record { tagged = byte 4 (at + 4) refl (omega arith); high = byte 5 (at + 4 + 1) (omega arith) (omega arith); low = byte 6 (at + 4 + 2) (omega arith) (omega arith) };
      third = record { tagged = byte 8 (at + 8) refl (omega arith); high = byte 9 (at + 8 + 1) (omega arith) (omega arith); low = byte 10 (at + 8 + 2) (omega arith) (omega arith) };
      position = ap sound_position (byte 3 (at + 3) refl (omega arith)) ∙ o.position;
      response =
          is-response s (at + 8 + 3)
          (record {
            service = byte 11 (at + 8 + 3) (omega arith) (omega arith);
            sub = byte 12 (at + 8 + 3 + 1) (omega arith) (omega arith);
            format = byte 14 (at + 8 + 3 + 3) (omega arith) (omega arith);
            mask = ap sound_mask (byte 13 (at + 8 + 3 + 2) (omega arith) (omega arith)) ∙ o.available;
          });
    }

two-bytes : (n : ℕ) → n / 256 * 256 + n % 256 ≡ n
two-bytes n = omega arith

pub stands-reading : (s : List ℕ) (k : ℕ) (r : CountReading) → Stands s (17 * k) r → reading_of s k ≡ r
unfolding reading_bytes reading_of
stands-reading s k r h =
    let byte = stands-byte s (17 * k) r h in
    let position : get_or s (17 * k + 3) 0 ≡ r.position = byte 3 (17 * k + 3) refl (omega arith) in
    let mask : get_or s (17 * k + 7) 0 ≡ r.mask = byte 7 (17 * k + 7) refl (omega arith) in
    let available : get_or s (17 * k + 13) 0 ≡ r.available = byte 13 (17 * k + 13) refl (omega arith) in
    let high : get_or s (17 * k + 15) 0 ≡ r.count / 256 = byte 15 (17 * k + 15) refl (omega arith) in
    let low : get_or s (17 * k + 15 + 1) 0 ≡ r.count % 256 = byte 16 (17 * k + 15 + 1) (omega arith) (omega arith) in
    rw (position, mask, available, high, low, two-bytes r.count)

pub length-reading : (r : CountReading) → length (reading_bytes r) ≡ 17
unfolding reading_bytes
length-reading r = refl

pub length-sheet : (rs : List CountReading) → length (sheet_of rs) ≡ 17 * length rs
unfolding sheet_of
length-sheet [] = refl
length-sheet (r ∷ rs) = omega (arith, length-append (reading_bytes r) (sheet_of rs), length-reading r, length-sheet rs)

stands_after : (r : CountReading) (s : List ℕ) (at : ℕ) (q : CountReading) → Stands s at q → Stands (reading_bytes r ++ s) (17 + at) q
unfolding reading_bytes
stands_after r s at q h =
    record { room = omega (arith, h.room, length-append (reading_bytes r) s); bytes = ap (take 17) (drop-append-add (reading_bytes r) s at) ∙ h.bytes }

pub sheet-stands : (rs : List CountReading) (k : ℕ) (d : CountReading) → k < length rs → Stands (sheet_of rs) (17 * k) (get_or rs k d)
unfolding sheet_of reading_bytes
sheet-stands [] k d l = absurd (omega arith)
sheet-stands (r ∷ rs) zero d l = record { room = omega (arith, length-append (reading_bytes r) (sheet_of rs)); bytes = refl }
sheet-stands (r ∷ rs) (suc k) d l =
    let e : 17 * suc k ≡ 17 + 17 * k = omega arith in
    rw e (stands_after r (sheet_of rs) (17 * k) (get_or rs k d) (sheet-stands rs k d (omega arith)))

pub each-sound : (rs : List CountReading) (k : ℕ) (d : CountReading) → EachSound rs → k < length rs → Sound (get_or rs k d)
each-sound [] k d h l = absurd (omega arith)
each-sound (r ∷ rs) zero d (one o h) l = o
each-sound (r ∷ rs) (suc k) d (one o h) l = each-sound rs k d h (omega arith)

-- ---- an input as the bytes of its readings
pub listed : (s : List ℕ) (f : ℕ → CountReading) (n : ℕ) → ((k : ℕ) → k < n → Stands s (17 * k) (f k)) → take (17 * n) s ≡ list_below (λ k. reading_bytes (f k)) n
listed s f zero h = sym (list-none _)
listed s f (suc n) h =
    let e : 17 * suc n ≡ 17 * n + 17 = omega arith in
    rw (e, take-add) (ap (λ (l : List ℕ). l ++ take 17 (drop (17 * n) s)) (listed s f n (λ k l. h k (omega arith))) ∙ ap (λ (l : List ℕ). list_below (λ k. reading_bytes (f k)) n ++ l) (h n (omega arith)).bytes ∙ sym (list-suc _ n))
