-- The theorems of mending (document 02, 2026-12). Each statement can be read without its proof; what the pieces are is said by `Mending`.
use mathlib.Core.Path.{◌≡◌, refl, sym, ap, ◌∙◌}
use mathlib.Core.Bool.{true}
use mathlib.Core.List.{List, [], ◌∷◌, ◌++◌}
use mathlib.Core.Logic.{inl}
use Prim.Native.Nat.{ℕ, zero, suc, ◌+◌, ◌≤◌, ◌<◌}
use native.Mathlib.Nat.{zero-add}
use native.Mathlib.Omega.{arith}
use lib.ListN.{length, take, drop, length-drop, take-append-drop}
use lib.Seq.{take-append_seam, drop-append_seam}
use Rattle.std.specs.Prelude.{Ok, Err}
use Rattle.identifiers.proofs.LawsBytes.{puts_whole, puts-rest}
use Rattle.identifiers.proofs.LawsChoice.{pick_true}
use Rattle.identifiers.specs.Refusals.{refusal}
use Rattle.identifiers.specs.declared.refusal.Refusal.{Refusal}
use Rattle.text.specs.Digits.{decimal, value_from, newlines}
use Rattle.text.proofs.Texts.{decimal-says}
use Rattle.sheet.specs.Text.{page_size}
use Rattle.sheet.specs.Sheets.{sheet_read}
use Rattle.sheet.proofs.LawsJoined.{accepted-first, accepted-behind}
use Rattle.mending.specs.Pieces.{accepts, begins, Piece, Kept, Dropped, ended, walk, pieces, joined, kept_of, mended}
use Rattle.mending.specs.Listed.{stretch_line, lines_from, stretch_lines, stretches_in}
use Rattle.mending.specs.Mended.{mended_as, Mends}
use Rattle.mending.specs.declared.mended.Mended.{Mended}
use Rattle.mending.specs.Mending.{Mending}
use Rattle.mending.proofs.LawsWalk.{begins-judged, ended-none, walk_end, walk-keep}
use Rattle.mending.proofs.LawsPieces.{silent, Stand, stand-mending, mending-stand}
use Rattle.mending.proofs.LawsWalked.{joined-append, walked, stand-walk}
use Rattle.mending.proofs.LawsKept.{kept-none, kept-first, kept-accepted}
use Rattle.mending.proofs.LawsListed.{no-stretch, lines-last, lines-kept, lines-append, newlines-lines, few-stretches, lines_fit}
use Rattle.mending.proofs.LawsMended.{too-long, mended-length, mends-not, answered-written, answered-refused}

-- ---- the walk's pieces are as `Mending` says, and no others are
stand : (s : List ℕ) → Stand (pieces s)
unfolding pieces
stand s = (walked [] s).stand silent

pub mending : (s : List ℕ) → Mending s (pieces s)
unfolding pieces
mending s = stand-mending s (pieces s) (walked [] s).whole (stand s)

pub one-mending : (s : List ℕ) (ps : List Piece) → Mending s ps → ps ≡ pieces s
unfolding pieces
one-mending s ps m =
    ap (λ (x : List Piece). x ++ ps) (sym ended-none) ∙ sym (stand-walk ps (mending-stand ps s m) [] (inl refl)) ∙ ap (walk 0 []) m.together

-- ---- "The result is always accepted by the count sheet"
pub always-accepted : (s : List ℕ) → length s ≤ 65535 → sheet_read (mended s) ≡ Ok tt
unfolding mended
always-accepted s l = kept-accepted (pieces s) (stand s) (omega (arith, mended-length s))

-- ---- "a sound sheet comes out unchanged", and nothing is listed
pub record Unchanged (s : List ℕ) : Type 0 where
  pub whole : mended s ≡ s
  pub unlisted : stretch_lines s ≡ []

record Unhurt (s : List ℕ) (ps : List Piece) : Type 0 where
  whole : kept_of ps ≡ s
  unlisted : (offset : ℕ) → lines_from offset ps ≡ []

unhurt-none : Unhurt [] (walk 0 [] [])
unhurt-none =
    let end : walk 0 [] [] ≡ ended [] = walk_end [] [] refl in
    record {
      whole = ap kept_of (end ∙ ended-none) ∙ kept-none;
      unlisted = λ offset. ap (lines_from offset) end ∙ lines-last offset [] ∙ no-stretch offset 0 refl;
    }

unhurt-more : (s : List ℕ) → begins s ≡ true → Unhurt (drop 17 s) (walk 0 [] (drop 17 s)) → Unhurt s (walk 0 [] s)
unhurt-more s e h =
    let ps = walk 0 [] (drop 17 s) in
    let first : walk 0 [] s ≡ Kept (take 17 s) ∷ ps = walk-keep [] s e ∙ ap (λ (x : List Piece). x ++ (Kept (take 17 s) ∷ ps)) ended-none in
    record {
      whole = ap kept_of first ∙ kept-first (take 17 s) ps ∙ ap (λ (x : List ℕ). take 17 s ++ x) h.whole ∙ take-append-drop 17 s;
      unlisted = λ offset. ap (lines_from offset) first ∙ lines-kept offset (take 17 s) ps ∙ h.unlisted (offset + length (take 17 s));
    }

accepted-begins : (s : List ℕ) → sheet_read s ≡ Ok tt → 0 < length s → begins s ≡ true
unfolding accepts
accepted-begins s e l = let first = accepted-first s e l in sym (begins-judged s (Ok tt) first.0 first.1)

unhurt : (n : ℕ) (s : List ℕ) → length s ≤ n → sheet_read s ≡ Ok tt → Unhurt s (walk 0 [] s)
unhurt zero [] l e = unhurt-none
unhurt zero (b ∷ s) l e = absurd (omega arith)
unhurt (suc n) [] l e = unhurt-none
unhurt (suc n) (b ∷ s) l e =
    unhurt-more (b ∷ s) (accepted-begins (b ∷ s) e (omega arith)) (unhurt n (drop 17 (b ∷ s)) (omega (arith, length-drop 17 (b ∷ s))) (accepted-behind (b ∷ s) e))

pub sound-unchanged : (s : List ℕ) → sheet_read s ≡ Ok tt → Unchanged s
unfolding mended stretch_lines pieces
sound-unchanged s e = let h = unhurt (length s) s (omega arith) e in record { whole = h.whole; unlisted = h.unlisted 0 }

-- ---- mending twice is mending once
pub twice-is-once : (s : List ℕ) → length s ≤ 65535 → Unchanged (mended s)
twice-is-once s l = sound-unchanged (mended s) (always-accepted s l)

-- ---- "lists each maximal dropped stretch by offset and length": a line for each, which says where it stands in the input and how long it is
pub a-line-each : (s : List ℕ) → newlines (stretch_lines s) ≡ stretches_in (pieces s)
unfolding stretch_lines
a-line-each s = newlines-lines 0 (pieces s)

-- and no more than 3,641 of them, since a whole reading stands between two
pub most-stretches : (s : List ℕ) → length s ≤ 65535 → stretches_in (pieces s) ≤ 3641
most-stretches s l = omega (arith, few-stretches s)

pub record ListedStretch (s : List ℕ) (front back : List Piece) (bytes : List ℕ) : Type 0 where
  pub line : stretch_lines s ≡ lines_from 0 front ++ (stretch_line (length (joined front)) (length bytes) ++ lines_from (length (joined front) + length bytes) back)
  pub place : take (length bytes) (drop (length (joined front)) s) ≡ bytes
  pub offset : value_from 10 0 (decimal (length (joined front))) ≡ length (joined front)
  pub count : value_from 10 0 (decimal (length bytes)) ≡ length bytes

pub listed-stretch : (s : List ℕ) (front back : List Piece) (bytes : List ℕ) → pieces s ≡ front ++ (Dropped bytes ∷ back) → ListedStretch s front back bytes
unfolding stretch_lines lines_from joined
listed-stretch s front back bytes e =
    let whole : s ≡ joined front ++ (bytes ++ joined back) = sym (mending s).together ∙ ap joined e ∙ joined-append front (Dropped bytes ∷ back) in
    record {
      line = ap (lines_from 0) e ∙ lines-append 0 front (Dropped bytes ∷ back) ∙ ap (λ (k : ℕ). lines_from 0 front ++ lines_from k (Dropped bytes ∷ back)) (zero-add (length (joined front)));
      place = ap (λ (x : List ℕ). take (length bytes) (drop (length (joined front)) x)) whole
          ∙ ap (take (length bytes)) (drop-append_seam (joined front) (bytes ++ joined back))
          ∙ take-append_seam bytes (joined back);
      offset = decimal-says (length (joined front));
      count = decimal-says (length bytes);
    }

-- ---- "Refusals: 21 only": of an input that is too long, where the count sheet says the same
pub only-21 : (s : List ℕ) (why : Refusal) → (mended_as s ≡ Err why → (why ≡ refusal 21) × (65535 < length s)) × (65535 < length s → mended_as s ≡ Err (refusal 21))
only-21 s why = (answered-refused s why, λ l. sym (mends-not s [] [] l).0)

-- ---- the two arrays: each text from the start on, and every byte behind it as it was; where refused, both as they were
pub record Arrays (s kept₀ page₀ kept page : List ℕ) (end listed : ℕ) : Type 0 where
  pub sheet : take end kept ≡ mended s
  pub past-sheet : drop end kept ≡ drop end kept₀
  pub list : take listed page ≡ stretch_lines s
  pub past-list : drop listed page ≡ drop listed page₀

pub arrays-hold : {s kept₀ page₀ kept page : List ℕ} (done : Mended) → length kept₀ ≡ 65535 → length page₀ ≡ page_size → mended_as s ≡ Ok done
    → Mends s kept₀ page₀ kept page → Arrays s kept₀ page₀ kept page done.kept done.listed
arrays-hold {s} done k l e m =
    let h = answered-written done e m in
    record {
      sheet = puts_whole (omega (arith, mended-length s, h.0)) h.1.0;
      past-sheet = puts-rest h.1.0;
      list = puts_whole (omega (arith, lines_fit s h.0)) h.1.1;
      past-list = puts-rest h.1.1;
    }

pub arrays-stay : {s kept₀ page₀ kept page : List ℕ} → 65535 < length s → Mends s kept₀ page₀ kept page → (kept ≡ kept₀) × (page ≡ page₀)
arrays-stay {s} l m = (m.keeps ∙ pick_true _ _ (too-long s l), m.lists ∙ pick_true _ _ (too-long s l))
