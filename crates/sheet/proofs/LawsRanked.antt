-- Laws of the page's text: what an accepted and a refused input give, its lines one after the other, and that it fits the page.
use Rattle.std.specs.Prelude.{Ok, Err}
use mathlib.Core.Path.{◌≡◌, refl, sym, ap, ◌∙◌}
use mathlib.Core.Bool.{Bool, true, false}
use mathlib.Core.List.{List, [], ◌∷◌, ◌++◌, map, map-append, append_assoc, append-nil}
use Prim.Native.Nat.{ℕ, ◌+◌, ◌*◌, ◌≤◌, ◌<◌}
use native.Mathlib.Numerals.{add-one}
use native.Mathlib.Omega.{arith}
use lib.ListN.{length, length-append, length-map, take, get_or}
use lib.Seq.{take-suc}
use Rattle.identifiers.specs.Bytes.{Puts}
use Rattle.identifiers.specs.Refusals.{number_of}
use Rattle.identifiers.proofs.LawsChoice.{both_true, so}
use Rattle.order.specs.Order.{places_below}
use Rattle.order.proofs.LawsKeep.{length-by}
use Rattle.order.proofs.LawsPlaces.{length-apart}
use Rattle.sheet.specs.Fields.{SheetRead, refused_at}
use Rattle.sheet.specs.Sheets.{sheet_read}
use Rattle.sheet.specs.Readings.{readings_in, reading_of}
use Rattle.sheet.specs.Text.{page_size, header, line_of, refusal_line}
use Rattle.sheet.specs.Ranked.{ranks, excludes, ranked, excluded, lines, lines_at, ranked_as, ranked_text}
use Rattle.identifiers.specs.declared.refusal.Refusal.{Refusal}
use Rattle.sheet.specs.declared.reading.CountReading.{CountReading}
use Rattle.sheet.proofs.LawsSheets.{accepted-short}
use Rattle.sheet.proofs.LawsPrinted.{length-line, length-refusal, text-fits, text-whole}

pub ranked-accepted : (s : List ℕ) (mask : ℕ) → sheet_read s ≡ Ok tt → ranked_text s mask ≡ header ++ lines_at s (ranked s mask ++ excluded s mask)
unfolding ranked_text ranked_as
ranked-accepted s mask e = rw e

pub ranked-refused : (s : List ℕ) (mask : ℕ) (why : Refusal) (o : ℕ) → sheet_read s ≡ refused_at why o → ranked_text s mask ≡ refusal_line (number_of why) o
unfolding ranked_text ranked_as
ranked-refused s mask why o e = rw e

-- ---- lines
pub lines_none : (s : List ℕ) → lines_at s [] ≡ []
unfolding lines
lines_none s = refl

lines-append : (rs qs : List CountReading) → lines (rs ++ qs) ≡ lines rs ++ lines qs
unfolding lines
lines-append [] qs = refl
lines-append (r ∷ rs) qs = ap (λ (l : List ℕ). line_of r ++ l) (lines-append rs qs) ∙ sym (append_assoc (line_of r) (lines rs) (lines qs))

lines-one : (r : CountReading) → lines (r ∷ []) ≡ line_of r
unfolding lines
lines-one r = append-nil (line_of r)

-- one place more
pub lines_more : (s places : List ℕ) (i : ℕ) → i < length places → lines_at s (take (i + 1) places) ≡ lines_at s (take i places) ++ line_of (reading_of s (get_or places i 0))
lines_more s places i l =
    let r = reading_of s (get_or places i 0) in
    ap (λ (n : ℕ). lines_at s (take n places)) (add-one i)
    ∙ ap (lines_at s) (take-suc places i 0 l)
    ∙ ap lines (map-append (reading_of s) (take i places) (get_or places i 0 ∷ []))
    ∙ lines-append (map (reading_of s) (take i places)) (r ∷ [])
    ∙ ap (λ (x : List ℕ). lines_at s (take i places) ++ x) (lines-one r)

pub length-lines : (rs : List CountReading) → length (lines rs) ≤ 23 * length rs
unfolding lines
length-lines [] = omega arith
length-lines (r ∷ rs) = omega (arith, length-append (line_of r) (lines rs), length-line r, length-lines rs)

-- ---- the page
ranked-or-excluded : (mask : ℕ) (r : CountReading) → ranks mask r ≡ true → excludes mask r ≡ false
unfolding ranks excludes
ranked-or-excluded mask r e = let h = both_true _ _ e in rw (h.0, h.1) (sym (so refl refl))

places-fit : (s : List ℕ) (mask : ℕ) → length (ranked s mask ++ excluded s mask) ≤ readings_in s
unfolding ranked excluded
places-fit s mask =
    let n = readings_in s in
    let first : ℕ → Bool = λ k. ranks mask (reading_of s k) in
    let second : ℕ → Bool = λ k. excludes mask (reading_of s k) in
    omega (arith, length-append (ranked s mask) (places_below second n), length-by (λ k. (reading_of s k).count) 65536 (places_below first n), length-apart first second (λ k. ranked-or-excluded mask (reading_of s k)) n)

pub ranked-fits : (s : List ℕ) (mask : ℕ) → length (ranked_text s mask) ≤ page_size
unfolding readings_in
ranked-fits s mask = by_answer (sheet_read s) refl
  where
    by_answer : (v : SheetRead) → sheet_read s ≡ v → length (ranked_text s mask) ≤ page_size
    by_answer (Ok _) e =
        let places = ranked s mask ++ excluded s mask in
        omega (arith, ap length (ranked-accepted s mask e), length-append header (lines_at s places), length-lines (map (reading_of s) places), length-map places (reading_of s), places-fit s mask, accepted-short s e)
    by_answer (Err r) e = omega (arith, ap length (ranked-refused s mask r.refusal r.offset e), length-refusal (number_of r.refusal) r.offset)

pub rank-fits : {page after : List ℕ} {end : ℕ} (s : List ℕ) (mask : ℕ) → length page ≡ page_size → Puts page 0 (ranked_text s mask) end after → end ≤ length after
rank-fits s mask = text-fits (ranked-fits s mask)

pub rank-whole : {page after : List ℕ} {end : ℕ} (s : List ℕ) (mask : ℕ) → length page ≡ page_size → Puts page 0 (ranked_text s mask) end after → take end after ≡ ranked_text s mask
rank-whole s mask = text-whole (ranked-fits s mask)
