-- The walk as the code goes it, by the place where it is and the place where the open stretch begins.
use mathlib.Core.Path.{◌≡◌, refl, sym, ap, ap₂, ◌∙◌}
use mathlib.Core.Bool.{true, false}
use mathlib.Core.List.{List, [], ◌∷◌, ◌++◌, append-nil}
use Prim.Native.Nat.{ℕ, suc, ◌+◌, ◌-◌, ◌≤◌, ◌<◌}
use native.Mathlib.Numerals.{add-one}
use native.Mathlib.Omega.{arith}
use lib.ListN.{length, get_or, take, drop, length-drop}
use lib.Seq.{length-take-le, take-suc, drop-cons, drop-drop, get_or-drop}
use Rattle.identifiers.specs.Bytes.{Puts}
use Rattle.mending.specs.Pieces.{begins, Piece, Kept, ended, walk, pieces, kept_of, mended}
use Rattle.mending.specs.Listed.{stretch_text, lines_from, stretch_lines}
use Rattle.mending.proofs.LawsWalk.{begins-whole, walk_end, walk-keep, walk-drop}
use Rattle.mending.proofs.LawsKept.{kept-none, kept-ended, kept-first}
use Rattle.mending.proofs.LawsListed.{lines-ended, lines-last, lines-kept}
use Rattle.mending.proofs.LawsLeft.{Left, left-all, left_as, left-put}

-- the bytes dropped since the last reading, and the pieces that the walk has still to come by
abbrev stretch : List ℕ → ℕ → ℕ → List ℕ
stretch s start at = take (at - start) (drop start s)

unfoldable pub ahead : List ℕ → ℕ → ℕ → List Piece
ahead s start at = walk 0 (stretch s start at) (drop at s)

length-open : (s : List ℕ) (start at : ℕ) → start ≤ at → at ≤ length s → length (stretch s start at) ≡ at - start
length-open s start at o l = length-take-le (at - start) (drop start s) (omega (arith, length-drop start s))

fresh : (s : List ℕ) (at : ℕ) → stretch s at at ≡ []
fresh s at = let e : at - at ≡ 0 = omega arith in ap (λ (n : ℕ). take n (drop at s)) e

ahead-first : (s : List ℕ) → ahead s 0 0 ≡ pieces s
unfolding ahead pieces
ahead-first s = refl

ahead-end : (s : List ℕ) (start at : ℕ) → length s ≤ at → ahead s start at ≡ ended (stretch s start at)
unfolding ahead
ahead-end s start at l = walk_end (stretch s start at) (drop at s) (omega (arith, length-drop at s))

ahead-keep : (s : List ℕ) (start at : ℕ) → begins (drop at s) ≡ true → ahead s start at ≡ ended (stretch s start at) ++ (Kept (take 17 (drop at s)) ∷ ahead s (at + 17) (at + 17))
unfolding ahead
ahead-keep s start at e =
    walk-keep (stretch s start at) (drop at s) e
    ∙ ap₂ (λ (x y : List ℕ). ended (stretch s start at) ++ (Kept (take 17 (drop at s)) ∷ walk 0 x y)) (sym (fresh s (at + 17))) (drop-drop 17 at s)

ahead-drop : (s : List ℕ) (start at : ℕ) → start ≤ at → at < length s → begins (drop at s) ≡ false → ahead s start at ≡ ahead s start (at + 1)
unfolding ahead
ahead-drop s start at o l e =
    let head : drop at s ≡ get_or s at 0 ∷ drop (suc at) s = drop-cons s at 0 l in
    let count : at + 1 - start ≡ suc (at - start) = omega arith in
    let place : start + (at - start) ≡ at = omega arith in
    let one : stretch s start (at + 1) ≡ stretch s start at ++ (get_or s at 0 ∷ []) =
    ap (λ (n : ℕ). take n (drop start s)) count
    ∙ take-suc (drop start s) (at - start) 0 (omega (arith, length-drop start s))
    ∙ ap (λ (b : ℕ). stretch s start at ++ (b ∷ [])) (get_or-drop start s (at - start) 0 ∙ ap (λ (k : ℕ). get_or s k 0) place)
    in
    ap (walk 0 (stretch s start at)) head
    ∙ walk-drop (stretch s start at) (get_or s at 0) (drop (suc at) s) (ap begins (sym head) ∙ e)
    ∙ ap₂ (walk 0) (sym one) (ap (λ (k : ℕ). drop k s) (sym (add-one at)))

-- ---- what is left to put, of the kept readings and of the list
pub record Going (s kept₀ page₀ kept page : List ℕ) (at start end listed : ℕ) : Type 0 where
  pub order : start ≤ at
  pub within : at ≤ length s
  pub keeps : Left kept₀ (mended s) kept end (kept_of (ahead s start at))
  pub lists : Left page₀ (stretch_lines s) page listed (lines_from start (ahead s start at))

pub going-first : (s kept page : List ℕ) → Going s kept page kept page 0 0 0 0
unfolding mended stretch_lines
going-first s kept page =
    record {
      order = omega arith;
      within = omega arith;
      keeps = left_as (left-all kept (mended s)) (ap kept_of (sym (ahead-first s)));
      lists = left_as (left-all page (stretch_lines s)) (ap (lines_from 0) (sym (ahead-first s)));
    }

module _ {s kept₀ page₀ kept page : List ℕ} {at start end listed : ℕ} (g : Going s kept₀ page₀ kept page at start end listed) where
  pub going_drop : at < length s → begins (drop at s) ≡ false → Going s kept₀ page₀ kept page (at + 1) start end listed
  going_drop l e =
      let same = ahead-drop s start at g.order l e in
      record {
        order = omega (arith, g.order);
        within = omega arith;
        keeps = left_as g.keeps (ap kept_of same);
        lists = left_as g.lists (ap (lines_from start) same);
      }

  -- where a reading begins: the stretch that is open, then the reading
  pub kept_next : begins (drop at s) ≡ true → kept_of (ahead s start at) ≡ take 17 (drop at s) ++ kept_of (ahead s (at + 17) (at + 17))
  kept_next e = ap kept_of (ahead-keep s start at e) ∙ kept-ended (stretch s start at) _ ∙ kept-first (take 17 (drop at s)) _

  pub lines_next : begins (drop at s) ≡ true → lines_from start (ahead s start at) ≡ stretch_text start (at - start) ++ lines_from (at + 17) (ahead s (at + 17) (at + 17))
  lines_next e =
      let long = length-open s start at g.order g.within in
      let whole = length-take-le 17 (drop at s) (begins-whole (drop at s) e) in
      let ps = ahead s (at + 17) (at + 17) in
      let place : start + length (stretch s start at) + length (take 17 (drop at s)) ≡ at + 17 = omega (arith, long, whole, g.order) in
      ap (lines_from start) (ahead-keep s start at e)
      ∙ lines-ended start (stretch s start at) (Kept (take 17 (drop at s)) ∷ ps)
      ∙ ap₂ ◌++◌ (ap (stretch_text start) long) (lines-kept (start + length (stretch s start at)) (take 17 (drop at s)) ps ∙ ap (λ (o : ℕ). lines_from o ps) place)

  pub going-keep : {kept₁ page₁ : List ℕ} {end₁ listed₁ : ℕ} → begins (drop at s) ≡ true → Puts page listed (stretch_text start (at - start)) listed₁ page₁
      → Puts kept end (take 17 (drop at s)) end₁ kept₁ → Going s kept₀ page₀ kept₁ page₁ (at + 17) (at + 17) end₁ listed₁
  going-keep e p q =
      record {
        order = omega arith;
        within = omega (arith, begins-whole (drop at s) e, length-drop at s, g.within);
        keeps = left-put g.keeps _ (kept_next e) q;
        lists = left-put g.lists _ (lines_next e) p;
      }

  -- at the end: the stretch that is open
  pub kept-last : length s ≤ at → kept_of (ahead s start at) ≡ []
  kept-last l = ap kept_of (ahead-end s start at l ∙ sym (append-nil (ended (stretch s start at)))) ∙ kept-ended (stretch s start at) [] ∙ kept-none

  pub list-last : length s ≤ at → lines_from start (ahead s start at) ≡ stretch_text start (at - start) ++ []
  list-last l =
      ap (lines_from start) (ahead-end s start at l)
      ∙ lines-last start (stretch s start at)
      ∙ ap (stretch_text start) (length-open s start at g.order g.within)
      ∙ sym (append-nil (stretch_text start (at - start)))
