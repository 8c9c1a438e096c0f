-- The page of one mask (document 02, 2026-01): it is what the sentences say, no other page is so, and what that means for the buyer. Each statement
-- can be read without its proof; the sentences stand in specs/Pages.
use Rattle.std.specs.Prelude.{Ok}
use mathlib.Core.Path.{◌≡◌, refl, sym, ap, ap₂, ◌∙◌}
use mathlib.Core.Bool.{Bool}
use mathlib.Core.List.{List, [], ◌∷◌, ◌++◌}
use Prim.Native.Nat.{ℕ, ◌+◌, ◌<◌}
use native.Mathlib.Omega.{arith}
use borrow.Author.Tests.{eq-eqb}
use lib.ListN.{length, take, drop}
use Rattle.identifiers.specs.Bytes.{Puts}
use Rattle.identifiers.proofs.LawsChoice.{pick_true}
use Rattle.identifiers.proofs.LawsBytes.{puts-rest}
use Rattle.order.specs.Order.{by_key}
use Rattle.order.specs.Ranks.{times, Behind, Ranks}
use Rattle.order.proofs.LawsKeep.{by-nil}
use Rattle.order.proofs.LawsTimes.{times-here, times-append, in-front}
use Rattle.order.proofs.LawsPlaces.{no-places, places_same, once, never-past}
use Rattle.order.proofs.LawsOrdered.{places-ordered, two-of}
use Rattle.order.proofs.RankedPlaces as rankings
use Rattle.sheet.specs.Fields.{refused_at}
use Rattle.sheet.specs.Sheets.{sheet_read}
use Rattle.sheet.specs.Readings.{readings_in, reading_of}
use Rattle.sheet.specs.Text.{page_size, header}
use Rattle.sheet.specs.Printed.{printed}
use Rattle.sheet.specs.Ranked.{asks, ranks, excludes, places_of, ranked, excluded, lines_at, ranked_text}
use Rattle.sheet.specs.Pages.{count_at, basis_at, Page}
use Rattle.identifiers.specs.declared.refusal.Refusal.{Refusal}
use Rattle.sheet.specs.declared.basis.Basis.TheVariants.{Full}
use Rattle.sheet.proofs.LawsStands.{Bytes}
use Rattle.sheet.proofs.LawsStanding.{count_small}
use Rattle.sheet.proofs.LawsPages.{ranks-is, is-ranks, in-one-half, was-picked, above-ranks, below-ranks, on-the-sheet, asked-at, none-ranked, all-excluded}
use Rattle.sheet.proofs.LawsPrinted.{printed-refused}
use Rattle.sheet.proofs.LawsRanked.{ranked-accepted, ranked-refused, rank-whole}

-- ---- the page is so, and no other page is
module _ (s : List ℕ) (mask : ℕ) (bytes : Bytes s) where
  by_count : Ranks (λ k. ranks mask (reading_of s k)) (count_at s) (readings_in s) (ranked s mask)
  unfolding ranked
  by_count = rankings.by-key-ranks (λ k. ranks mask (reading_of s k)) (count_at s) (readings_in s) 65536 (λ k l. count_small s bytes k)

  pub page : Page s mask (ranked s mask) (excluded s mask)
  unfolding excluded
  page =
      let test : ℕ → Bool = λ k. excludes mask (reading_of s k) in
      let n = readings_in s in
      record {
        appears_once = λ k l. times-append k (ranked s mask) (places_of (excludes mask) s) ∙ ap₂ ◌+◌ (by_count.each_once k l) (once test k n l) ∙ in-one-half s mask k;
        nothing_else = λ k l. times-append k (ranked s mask) (places_of (excludes mask) s) ∙ ap₂ ◌+◌ (by_count.nothing_else k l) (never-past test k n l);
        ranked_exactly = λ k l. (
          (λ (h : 0 < times k (ranked s mask)). ranks-is s mask k (was-picked _ (rw (by_count.each_once k l) at h))),
          (λ h. omega (arith, by_count.each_once k l, pick_true {A = ℕ} 1 0 (is-ranks s mask k h.0 h.1))),
        );
        lowest_first = by_count.in_order;
        sheet_order = two-of (places-ordered test n);
      }

  pub one-page : {above below : List ℕ} → Page s mask above below → (above ≡ ranked s mask) × (below ≡ excluded s mask)
  one-page p = (rankings.one-ranking _ _ _ _ _ (above-ranks s mask p) by_count, rankings.one-ranking _ _ _ _ _ (below-ranks s mask p) (below-ranks s mask page))

  -- so the text is the header and the lines of any page that is so
  pub page-text : {above below : List ℕ} → sheet_read s ≡ Ok tt → Page s mask above below → ranked_text s mask ≡ header ++ lines_at s (above ++ below)
  page-text e p = let same = one-page p in ranked-accepted s mask e ∙ sym (ap₂ (λ (r e : List ℕ). header ++ lines_at s (r ++ e)) same.0 same.1)

-- ---- a reading that is not full never stands above one that is
pub full-above : (s : List ℕ) (mask : ℕ) {above below : List ℕ} → Page s mask above below → (i j : ℕ) → Behind (above ++ below) i j → basis_at s j ≡ Full → basis_at s i ≡ Full
full-above s mask {above} {below} p i j h full =
    let a = h.0 in
    let b = h.1.0 in
    let c = h.1.1.0 in
    let e = h.1.1.1 in
    let rest = times-append j a (i ∷ (b ++ (j ∷ c))) in
    let last = times-append j (i ∷ b) (j ∷ c) in
    let there : 0 < times j (above ++ below) = omega (arith, ap (times j) e, rest, last, times-here j j c refl) in
    let l = on-the-sheet s mask p j there in
    let asked = asked-at s mask p j l there in
    let above-j : 0 < times j above = (p.ranked_exactly j l).1 (asked, full) in
    let once-j : times j (above ++ below) ≡ 1 = p.appears_once j l ∙ pick_true 1 0 (eq-eqb _ _ asked) in
    let above-i = in-front i j above below a b c e (omega (arith, times-append j above below)) in
    ((p.ranked_exactly i (on-the-sheet s mask p i (omega (arith, times-append i above below)))).0 above-i).1

-- ---- "Mask 00 always lists as excluded."
pub mask-00 : (s : List ℕ) → (ranked s 0 ≡ []) × (excluded s 0 ≡ places_of (asks 0) s)
unfolding ranked excluded
mask-00 s = (
  ap (by_key (count_at s) 65536) (no-places _ (readings_in s) (none-ranked s)) ∙ by-nil (count_at s) 65536,
  places_same _ _ (readings_in s) (all-excluded s),
)

-- ---- "Refusals: those of the sheet, 21 to 24.": the count sheet's own line, whatever the mask
pub refused-page : (s : List ℕ) (mask : ℕ) (why : Refusal) (offset : ℕ) → sheet_read s ≡ refused_at why offset → ranked_text s mask ≡ printed s
refused-page s mask why offset e = ranked-refused s mask why offset e ∙ sym (printed-refused s why offset e)

-- ---- where the lent page holds the text as `rank`'s contract says, that is the whole text, and every byte after it is as it was
pub page-holds : {page after : List ℕ} {end : ℕ} (s : List ℕ) (mask : ℕ) → length page ≡ page_size → Puts page 0 (ranked_text s mask) end after
    → (take end after ≡ ranked_text s mask) × (drop end after ≡ drop end page)
page-holds s mask h p = (rank-whole s mask h p, puts-rest p)
