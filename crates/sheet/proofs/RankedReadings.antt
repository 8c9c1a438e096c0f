-- The page goes by the readings of its mask alone (document 02, 2026-01, "readings of other masks don't appear"): a reading of another mask, added to the
-- sheet wherever it may be, changes no line. Every accepted sheet is readings written one after the other, so the statements are of these.
use Rattle.std.specs.Prelude.{Ok}
use mathlib.Core.Path.{◌≡◌, refl, sym, ap, ap₂, ◌∙◌}
use mathlib.Core.Bool.{Bool, false}
use mathlib.Core.List.{List, [], ◌∷◌, ◌++◌, map, map-append, append_assoc, append-nil}
use Prim.Native.Nat.{ℕ, zero, suc, ◌≤◌, ◌<◌}
use native.Mathlib.Omega.{arith}
use borrow.Author.Tests.{ne_eqb}
use lib.ListN.{length, length-append, get_or, take}
use lib.Seq.{take-suc, take_all}
use Rattle.identifiers.specs.Below.{list_below}
use Rattle.identifiers.proofs.LawsBelow.{list-none, list-suc}
use Rattle.identifiers.proofs.LawsChoice.{stop}
use Rattle.order.specs.Order.{keep, by_key, places_below}
use Rattle.order.proofs.LawsKeep.{keep-nil, keep-hit, keep-miss, keep_append}
use Rattle.order.proofs.LawsMapped.{by_map}
use Rattle.order.proofs.LawsPlaces.{places-none, places-cases}
use Rattle.sheet.specs.Sheets.{sheet_read}
use Rattle.sheet.specs.Readings.{readings_in, reading_of, reading_bytes, sheet_of, Sound, EachSound, none, one}
use Rattle.sheet.specs.Text.{header}
use Rattle.sheet.specs.Ranked.{asks, ranks, excludes, places_of, ranked, excluded, lines, ranked_text}
use Rattle.sheet.specs.declared.reading.CountReading.{CountReading}
use Rattle.sheet.proofs.LawsStands.{Bytes}
use Rattle.sheet.proofs.LawsRanked.{ranked-accepted}
use Rattle.sheet.proofs.CountSheet.{accepted-sheet, written-sheet}

-- ---- the readings at the places that pass a test are those that pass it
kept-places : (p : CountReading → Bool) (f : ℕ → CountReading) (rs : List CountReading) (d : CountReading) (n : ℕ) → n ≤ length rs
    → ((k : ℕ) → k < n → f k ≡ get_or rs k d) → map f (places_below (λ k. p (f k)) n) ≡ keep p (take n rs)
kept-places p f rs d zero l h = ap (map f) (places-none (λ k. p (f k))) ∙ sym (keep-nil p)
kept-places p f rs d (suc n) l h =
    let test : ℕ → Bool = λ k. p (f k) in
    let before = kept-places p f rs d n (omega arith) (λ k m. h k (omega arith)) in
    let last : take (suc n) rs ≡ take n rs ++ (f n ∷ []) = take-suc rs n d (omega arith) ∙ ap (λ (r : CountReading). take n rs ++ (r ∷ [])) (sym (h n (omega arith))) in
    let parts = ap (keep p) last ∙ keep_append p (take n rs) (f n ∷ []) in
    places-cases test (λ places. map f places ≡ keep p (take (suc n) rs)) n
    (λ e. map-append f (places_below test n) (n ∷ [])
    ∙ ap₂ ◌++◌ before (sym (keep-hit p (f n) [] e ∙ ap (λ (rs : List CountReading). f n ∷ rs) (keep-nil p))) ∙ sym parts)
    (λ e. before ∙ sym (append-nil (keep p (take n rs))) ∙ ap (λ (x : List CountReading). keep p (take n rs) ++ x) (sym (keep-miss p (f n) [] e ∙ keep-nil p)) ∙ sym parts)

all-places : (p : CountReading → Bool) (rs : List CountReading) → EachSound rs → length rs ≤ 3855 → map (reading_of (sheet_of rs)) (places_of p (sheet_of rs)) ≡ keep p rs
all-places p rs h l =
    let s = sheet_of rs in
    let w = written-sheet rs h l in
    let d = reading_of s 0 in
    ap (λ (n : ℕ). map (reading_of s) (places_below (λ k. p (reading_of s k)) n)) w.as_many
    ∙ kept-places p (reading_of s) rs d (length rs) (omega arith) (λ k m. w.back k d m)
    ∙ ap (keep p) (take_all (length rs) rs (omega arith))

-- ---- the page of readings: those that are ranked, by their counts, then those that are excluded
pub written-page : (rs : List CountReading) (mask : ℕ) → EachSound rs → length rs ≤ 3855
    → ranked_text (sheet_of rs) mask ≡ header ++ lines (by_key (λ r. r.count) 65536 (keep (ranks mask) rs) ++ keep (excludes mask) rs)
unfolding ranked excluded
written-page rs mask h l =
    let s = sheet_of rs in
    let above = by_map (reading_of s) (λ r. r.count) 65536 (places_of (ranks mask) s) ∙ ap (by_key (λ (r : CountReading). r.count) 65536) (all-places (ranks mask) rs h l) in
    ranked-accepted s mask (written-sheet rs h l).accepted
    ∙ ap (λ (x : List CountReading). header ++ lines x) (map-append (reading_of s) (ranked s mask) (excluded s mask) ∙ ap₂ ◌++◌ above (all-places (excludes mask) rs h l))

-- ---- a reading of another mask
other-mask : (mask : ℕ) (r : CountReading) → (r.mask ≡ mask → ⊥) → (ranks mask r ≡ false) × (excludes mask r ≡ false)
unfolding asks ranks excludes
other-mask mask r n = let e = ne_eqb _ _ n in (sym (stop _ e), sym (stop _ e))

keep-without : (p : CountReading → Bool) (r : CountReading) (rs qs : List CountReading) → p r ≡ false → keep p (rs ++ (r ∷ qs)) ≡ keep p (rs ++ qs)
keep-without p r rs qs e =
    keep_append p rs (r ∷ qs) ∙ ap (λ (x : List CountReading). keep p rs ++ x) (keep-miss p r qs e) ∙ sym (keep_append p rs qs)

sound-without : (r : CountReading) (rs qs : List CountReading) → EachSound (rs ++ (r ∷ qs)) → EachSound (rs ++ qs)
sound-without r [] qs (one o h) = h
sound-without r (q ∷ rs) qs (one o h) = one o (sound-without r rs qs h)

pub others-change-nothing : (mask : ℕ) (r : CountReading) (rs qs : List CountReading) → EachSound (rs ++ (r ∷ qs)) → length (rs ++ (r ∷ qs)) ≤ 3855
    → (r.mask ≡ mask → ⊥) → ranked_text (sheet_of (rs ++ (r ∷ qs))) mask ≡ ranked_text (sheet_of (rs ++ qs)) mask
others-change-nothing mask r rs qs h l n =
    let fewer : length (rs ++ qs) ≤ 3855 = omega (arith, length-append rs (r ∷ qs), length-append rs qs) in
    let out = other-mask mask r n in
    written-page (rs ++ (r ∷ qs)) mask h l
    ∙ ap₂ (λ (x y : List CountReading). header ++ lines (by_key (λ r. r.count) 65536 x ++ y)) (keep-without (ranks mask) r rs qs out.0) (keep-without (excludes mask) r rs qs out.1)
    ∙ sym (written-page (rs ++ qs) mask (sound-without r rs qs h) fewer)

-- ---- every accepted sheet is readings written one after the other
sheet-append : (rs qs : List CountReading) → sheet_of (rs ++ qs) ≡ sheet_of rs ++ sheet_of qs
unfolding sheet_of
sheet-append [] qs = refl
sheet-append (r ∷ rs) qs = ap (λ (l : List ℕ). reading_bytes r ++ l) (sheet-append rs qs) ∙ sym (append_assoc (reading_bytes r) (sheet_of rs) (sheet_of qs))

sound-append : {rs qs : List CountReading} → EachSound rs → EachSound qs → EachSound (rs ++ qs)
sound-append none h = h
sound-append (one o g) h = one o (sound-append g h)

record Written (s : List ℕ) (n : ℕ) : Type 0 where
  readings : List CountReading
  sound : EachSound readings
  many : length readings ≡ n
  is : s ≡ sheet_of readings

written_below : (f : ℕ → CountReading) (n : ℕ) → ((k : ℕ) → k < n → Sound (f k)) → Written (list_below (λ k. reading_bytes (f k)) n) n
unfolding sheet_of
written_below f zero h = record { readings = []; sound = none; many = refl; is = list-none _ }
written_below f (suc n) h =
    let w = written_below f n (λ k l. h k (omega arith)) in
    record {
      readings = w.readings ++ (f n ∷ []);
      sound = sound-append w.sound (one (h n (omega arith)) none);
      many = omega (arith, length-append w.readings (f n ∷ []), w.many);
      is = list-suc _ n ∙ ap₂ ◌++◌ w.is (sym (append-nil (reading_bytes (f n)))) ∙ sym (sheet-append w.readings (f n ∷ []));
    }

pub accepted-written : (s : List ℕ) → Bytes s → sheet_read s ≡ Ok tt → (rs : List CountReading) × (EachSound rs × ((length rs ≤ 3855) × (s ≡ sheet_of rs)))
accepted-written s b e =
    let a = accepted-sheet s b e in
    let w = written_below (reading_of s) (readings_in s) a.sound in
    (w.readings, (w.sound, (omega (arith, a.short, a.whole, w.many), a.readings ∙ w.is)))
