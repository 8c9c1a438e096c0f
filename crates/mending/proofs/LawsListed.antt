-- Laws of the list: of pieces in a row, a line each, and that it fits the page.
use mathlib.Core.Path.{◌≡◌, refl, sym, ap, ◌∙◌}
use mathlib.Core.List.{List, [], ◌∷◌, ◌++◌, append-nil, append_assoc}
use Prim.Native.Nat.{ℕ, ◌+◌, ◌*◌, ◌≤◌}
use native.Mathlib.Omega.{arith}
use borrow.Author.Tests.{eq-eqb, ne_eqb}
use lib.ListN.{length, take, drop, length-append, length-drop}
use Rattle.identifiers.specs.Choice.{pick}
use Rattle.identifiers.proofs.LawsChoice.{pick_true, pick-false}
use Rattle.text.specs.Digits.{decimal, newlines}
use Rattle.text.proofs.LawsDigits.{length-decimal, newlines-append, newlines-decimal, one-newline}
use Rattle.sheet.specs.Text.{page_size}
use Rattle.mending.specs.Pieces.{Piece, Kept, Dropped, ended, walk, pieces, joined}
use Rattle.mending.specs.Listed.{stretch_line, stretch_text, lines_from, stretch_lines, stretches_in}
use Rattle.mending.proofs.LawsWalk.{begins-whole, ended-none, by-walk}
use Rattle.mending.proofs.LawsWalked.{walked}

-- ---- a stretch
pub no-stretch : (o n : ℕ) → n ≡ 0 → stretch_text o n ≡ []
unfolding stretch_text
no-stretch o n e = pick_true _ _ (eq-eqb _ _ e)

pub a-stretch : (o n : ℕ) → (n ≡ 0 → ⊥) → stretch_text o n ≡ stretch_line o n
unfolding stretch_text
a-stretch o n e = pick-false _ _ (ne_eqb _ _ e)

pub length-parts : (o n : ℕ) → length (stretch_line o n) ≡ 8 + (length (decimal n) + (4 + (length (decimal o) + 1)))
unfolding stretch_line
length-parts o n = simp length-append (omega arith)

length-line : (o n : ℕ) → o ≤ 65535 → n ≤ 65535 → length (stretch_line o n) ≤ 23
length-line o n l m = omega (arith, length-parts o n, length-decimal 5 o (omega arith) (omega arith), length-decimal 5 n (omega arith) (omega arith))

-- ---- pieces in a row
pub lines-ended : (o : ℕ) (d : List ℕ) (ps : List Piece) → lines_from o (ended d ++ ps) ≡ stretch_text o (length d) ++ lines_from (o + length d) ps
unfolding ended lines_from
lines-ended o [] ps = let e : o + 0 ≡ o = omega arith in rw (no-stretch o 0 refl, e)
lines-ended o (b ∷ d) ps = ap (λ (x : List ℕ). x ++ lines_from (o + length (b ∷ d)) ps) (sym (a-stretch o (length (b ∷ d)) (λ (e : length (b ∷ d) ≡ 0). omega arith)))

pub lines-last : (o : ℕ) (d : List ℕ) → lines_from o (ended d) ≡ stretch_text o (length d)
unfolding lines_from
lines-last o d = ap (lines_from o) (sym (append-nil (ended d))) ∙ lines-ended o d [] ∙ append-nil (stretch_text o (length d))

pub lines-kept : (o : ℕ) (bytes : List ℕ) (ps : List Piece) → lines_from o (Kept bytes ∷ ps) ≡ lines_from (o + length bytes) ps
unfolding lines_from
lines-kept o bytes ps = refl

pub lines-append : (o : ℕ) (ps qs : List Piece) → lines_from o (ps ++ qs) ≡ lines_from o ps ++ lines_from (o + length (joined ps)) qs
unfolding lines_from joined
lines-append o [] qs = ap (λ (k : ℕ). lines_from k qs) (omega arith)
lines-append o (Kept bytes ∷ ps) qs =
    lines-append (o + length bytes) ps qs
    ∙ ap (λ (k : ℕ). lines_from (o + length bytes) ps ++ lines_from k qs) (omega (arith, length-append bytes (joined ps)))
lines-append o (Dropped bytes ∷ ps) qs =
    let line = stretch_line o (length bytes) in
    ap (λ (x : List ℕ). line ++ x) (lines-append (o + length bytes) ps qs)
    ∙ ap (λ (k : ℕ). line ++ (lines_from (o + length bytes) ps ++ lines_from k qs)) (omega (arith, length-append bytes (joined ps)))
    ∙ sym (append_assoc line (lines_from (o + length bytes) ps) (lines_from (o + length (bytes ++ joined ps)) qs))

dropped-word : newlines (100 ∷ 114 ∷ 111 ∷ 112 ∷ 112 ∷ 101 ∷ 100 ∷ 32 ∷ []) ≡ 0
unfolding pick
dropped-word = refl

at-word : newlines (32 ∷ 97 ∷ 116 ∷ 32 ∷ []) ≡ 0
unfolding pick
at-word = refl

pub newlines-line : (o n : ℕ) → newlines (stretch_line o n) ≡ 1
unfolding stretch_line
newlines-line o n = simp newlines-append (omega (arith, newlines-decimal o, newlines-decimal n, dropped-word, at-word, one-newline))

pub newlines-lines : (o : ℕ) (ps : List Piece) → newlines (lines_from o ps) ≡ stretches_in ps
unfolding lines_from stretches_in
newlines-lines o [] = refl
newlines-lines o (Kept bytes ∷ ps) = newlines-lines (o + length bytes) ps
newlines-lines o (Dropped bytes ∷ ps) =
    newlines-append (stretch_line o (length bytes)) (lines_from (o + length bytes) ps) ∙ omega (arith, newlines-line o (length bytes), newlines-lines (o + length bytes) ps)

-- ---- between two stretches stand 17 bytes
in-ended : (d : List ℕ) (ps : List Piece) → stretches_in (ended d ++ ps) ≡ length (ended d) + stretches_in ps
unfolding ended stretches_in
in-ended [] ps = omega arith
in-ended (b ∷ d) ps = refl

in_kept : (bytes : List ℕ) (ps : List Piece) → stretches_in (Kept bytes ∷ ps) ≡ stretches_in ps
unfolding stretches_in
in_kept bytes ps = refl

in-none : stretches_in [] ≡ 0
unfolding stretches_in
in-none = refl

length-ended : (d : List ℕ) → length (ended d) ≤ 1
unfolding ended
length-ended [] = omega arith
length-ended (b ∷ d) = omega arith

few : (d s : List ℕ) → 18 * stretches_in (walk 0 d s) ≤ length s + 17 + length (ended d)
few d s =
    by-walk (λ d s ps. 18 * stretches_in ps ≤ length s + 17 + length (ended d))
    (λ d. omega (arith, length-ended d, ap stretches_in (append-nil (ended d)), in-ended d [], in-none))
    (λ d s ps e (h : 18 * stretches_in ps ≤ length (drop 17 s) + 17 + length (ended [])).
    omega (arith, h, length-ended d, ap length ended-none, begins-whole s e, length-drop 17 s, in-ended d (Kept (take 17 s) ∷ ps), in_kept (take 17 s) ps))
    (λ d b s ps e (h : 18 * stretches_in ps ≤ length s + 17 + length (ended (d ++ (b ∷ [])))). omega (arith, h, length-ended (d ++ (b ∷ []))))
    d
    s

pub few-stretches : (s : List ℕ) → 18 * stretches_in (pieces s) ≤ length s + 17
unfolding pieces
few-stretches s = omega (arith, few [] s, ap length ended-none)

-- ---- the page: a line has at most 23 bytes
length-lines : (o : ℕ) (ps : List Piece) → o + length (joined ps) ≤ 65535 → length (lines_from o ps) ≤ 23 * stretches_in ps
unfolding lines_from joined stretches_in
length-lines o [] l = omega arith
length-lines o (Kept bytes ∷ ps) l = length-lines (o + length bytes) ps (omega (arith, length-append bytes (joined ps)))
length-lines o (Dropped bytes ∷ ps) l =
    let both = length-append bytes (joined ps) in
    omega (arith, length-append (stretch_line o (length bytes)) (lines_from (o + length bytes) ps), length-line o (length bytes) (omega arith) (omega arith), length-lines (o + length bytes) ps (omega arith))

pub lines_fit : (s : List ℕ) → length s ≤ 65535 → length (stretch_lines s) ≤ page_size
unfolding stretch_lines pieces
lines_fit s l = omega (arith, length-lines 0 (pieces s) (omega (arith, ap length (walked [] s).whole)), few-stretches s)
