-- What the rule does at a cut count (document 02, 2026-12): a reading that is cut within its count borrows the first bytes behind it, and the
-- sound reading from which it borrowed is not kept. Each statement can be read without its proof.
use mathlib.Core.Path.{◌≡◌, sym, ap, ap₂, ◌∙◌}
use mathlib.Core.List.{List, [], ◌∷◌, ◌++◌, append_assoc}
use Prim.Native.Nat.{ℕ, ◌/◌, ◌<◌}
use native.Mathlib.Omega.{arith}
use lib.ListN.{take, drop, length-append}
use Rattle.sheet.specs.Readings.{reading_bytes, Sound}
use Rattle.sheet.specs.declared.reading.CountReading.{CountReading}
use Rattle.sheet.proofs.LawsCount.{length_front, any-count, first_two, second, third, before_last, without-first, without-two}
use Rattle.mending.specs.Pieces.{begins, Kept, pieces}
use Rattle.mending.proofs.LawsWalk.{is-reading, begins-not}
use Rattle.mending.proofs.LawsWalked.{pieces_kept, StretchFirst, pieces-dropped}

-- whatever two bytes stand behind the first fifteen of a sound reading, they are taken for its count
pub any-two-bytes : (r : CountReading) (high low : ℕ) (rest : List ℕ) → Sound r → high < 256 → low < 256
    → pieces (take 15 (reading_bytes r) ++ (high ∷ low ∷ rest)) ≡ Kept (take 15 (reading_bytes r) ++ (high ∷ low ∷ [])) ∷ pieces rest
any-two-bytes r high low rest h a b =
    let front = take 15 (reading_bytes r) in
    let bytes = front ++ (high ∷ low ∷ []) in
    ap pieces (sym (append_assoc front (high ∷ low ∷ []) rest))
    ∙ pieces_kept bytes rest (is-reading bytes (omega (arith, length-append front (high ∷ low ∷ []), length_front r)) (any-count r high low h a b))

module _ (r q : CountReading) (rest : List ℕ) (h : Sound r) where
  -- cut before its last byte: the low byte of the count is 1, the first byte of the reading behind it
  pub borrows-one : pieces (take 16 (reading_bytes r) ++ (reading_bytes q ++ rest)) ≡ Kept (take 16 (reading_bytes r) ++ (1 ∷ [])) ∷ pieces (drop 1 (reading_bytes q) ++ rest)
  borrows-one =
      let front = take 15 (reading_bytes r) in
      let high = r.count / 256 in
      let cut = before_last r h in
      let back = drop 1 (reading_bytes q) ++ rest in
      let first : reading_bytes q ≡ 1 ∷ drop 1 (reading_bytes q) = first_two q ∙ ap (λ (x : List ℕ). 1 ∷ x) (sym (second q)) in
      ap₂ (λ (x y : List ℕ). pieces (x ++ (y ++ rest))) cut.0 first
      ∙ ap pieces (append_assoc front (high ∷ []) (1 ∷ back))
      ∙ any-two-bytes r high 1 back h cut.1 (omega arith)
      ∙ ap (λ (x : List ℕ). Kept x ∷ pieces back) (sym (append_assoc front (high ∷ []) (1 ∷ [])) ∙ ap (λ (x : List ℕ). x ++ (1 ∷ [])) (sym cut.0))

  -- cut before its count: the count is 256, the first two bytes of the reading behind it
  pub borrows-two : pieces (take 15 (reading_bytes r) ++ (reading_bytes q ++ rest))
      ≡ Kept (take 15 (reading_bytes r) ++ (1 ∷ 0 ∷ [])) ∷ pieces (drop 2 (reading_bytes q) ++ rest)
  borrows-two =
      ap (λ (x : List ℕ). pieces (take 15 (reading_bytes r) ++ (x ++ rest))) (first_two q) ∙ any-two-bytes r 1 0 (drop 2 (reading_bytes q) ++ rest) h (omega arith) (omega arith)

-- what is left of the sound reading begins a stretch, whatever stands behind it
pub neighbour-lost : (q : CountReading) (rest : List ℕ) → Sound q
    → StretchFirst 0 (pieces (drop 1 (reading_bytes q) ++ rest)) × StretchFirst 1 (pieces (drop 2 (reading_bytes q) ++ rest))
neighbour-lost q rest k = (
  rw (second q) (pieces-dropped 0 (drop 2 (reading_bytes q) ++ rest) (ap (λ (x : List ℕ). begins (x ++ rest)) (sym (second q)) ∙ begins-not (drop 1 (reading_bytes q) ++ rest) (without-first q rest))),
  rw (third q) (pieces-dropped 1 (drop 3 (reading_bytes q) ++ rest) (ap (λ (x : List ℕ). begins (x ++ rest)) (sym (third q)) ∙ begins-not (drop 2 (reading_bytes q) ++ rest) (without-two q rest k))),
)
