-- The walk's pieces are the input in order and stand as they should; and pieces that stand so are the walk's.
use mathlib.Core.Path.{◌≡◌, refl, sym, ap, ap₂, ◌∙◌}
use mathlib.Core.Bool.{true, false}
use mathlib.Core.List.{List, [], ◌∷◌, ◌++◌, append_assoc, append-nil}
use mathlib.Core.Logic.{◌⊎◌, inl, inr}
use Prim.Native.Nat.{ℕ}
use native.Mathlib.Omega.{arith}
use lib.ListN.{length, take, drop, take-append-drop}
use lib.Seq.{append_snoc, take_at, drop_at}
use Rattle.mending.specs.Pieces.{is_reading, begins, Piece, Kept, Dropped, ended, walk, pieces, joined}
use Rattle.mending.proofs.LawsWalk.{reading-is, walk_end, walk-keep, walk-drop, by-walk}
use Rattle.mending.proofs.LawsPieces.{Quiet, silent, more, Closed, kept-closed, none-closed, Stand, none, kept, dropped}

-- ---- in order
pub joined-append : (ps qs : List Piece) → joined (ps ++ qs) ≡ joined ps ++ joined qs
unfolding joined
joined-append [] qs = refl
joined-append (Kept bytes ∷ ps) qs = ap (λ (x : List ℕ). bytes ++ x) (joined-append ps qs) ∙ sym (append_assoc bytes (joined ps) (joined qs))
joined-append (Dropped bytes ∷ ps) qs = ap (λ (x : List ℕ). bytes ++ x) (joined-append ps qs) ∙ sym (append_assoc bytes (joined ps) (joined qs))

joined-ended : (d : List ℕ) → joined (ended d) ≡ d
unfolding joined ended
joined-ended [] = refl
joined-ended (b ∷ d) = append-nil (b ∷ d)

joined-kept : (s : List ℕ) (ps : List Piece) → joined ps ≡ drop 17 s → joined (Kept (take 17 s) ∷ ps) ≡ s
unfolding joined
joined-kept s ps e = ap (λ (x : List ℕ). take 17 s ++ x) e ∙ take-append-drop 17 s

-- ---- as they should stand
quiet-more : (d : List ℕ) (b : ℕ) (s : List ℕ) → begins (b ∷ s) ≡ false → Quiet d (b ∷ s) → Quiet (d ++ (b ∷ [])) s
quiet-more [] b s e silent = more e silent
quiet-more (c ∷ d) b s e (more f q) = more (ap (λ (x : List ℕ). begins (c ∷ x)) (append_snoc d b s) ∙ f) (quiet-more d b s e q)

stand-ended : (d : List ℕ) (ps : List Piece) → Quiet d (joined ps) → Closed ps → Stand ps → Stand (ended d ++ ps)
unfolding ended
stand-ended [] ps q c h = h
stand-ended (b ∷ d) ps q c h = dropped (λ (e : b ∷ d ≡ []). let z : ◌≡◌ {A = ℕ} (length (b ∷ d)) 0 = ap length e in omega arith) q c h

pub record Walked (d s : List ℕ) (ps : List Piece) : Type 0 where
  pub stand : Quiet d s → Stand ps
  pub whole : joined ps ≡ d ++ s

pub walked : (d s : List ℕ) → Walked d s (walk 0 d s)
unfolding joined begins
walked d s =
    by-walk Walked
    (λ d. record { stand = λ q. rw append-nil at (stand-ended d [] q none-closed none); whole = joined-ended d ∙ sym (append-nil d) })
    (λ d s ps e h. record {
      stand = λ q. stand-ended d (Kept (take 17 s) ∷ ps) (rw (joined-kept s ps h.whole) q) (kept-closed (take 17 s) ps) (kept e (h.stand silent));
      whole = joined-append (ended d) (Kept (take 17 s) ∷ ps) ∙ ap₂ ◌++◌ (joined-ended d) (joined-kept s ps h.whole);
    })
    (λ d b s ps e h. record { stand = λ q. h.stand (quiet-more d b s e q); whole = h.whole ∙ append_snoc d b s })
    d
    s

-- ---- and no others
begins-kept : (bytes rest : List ℕ) → is_reading bytes ≡ true → begins (bytes ++ rest) ≡ true
unfolding begins
begins-kept bytes rest e = ap is_reading (take_at bytes rest 17 (reading-is bytes e).0) ∙ e

pub pieces_kept : (bytes rest : List ℕ) → is_reading bytes ≡ true → pieces (bytes ++ rest) ≡ Kept bytes ∷ pieces rest
unfolding pieces ended
pieces_kept bytes rest r =
    let long = (reading-is bytes r).0 in
    walk-keep [] (bytes ++ rest) (begins-kept bytes rest r)
    ∙ ap₂ (λ (x y : List ℕ). Kept x ∷ walk 0 [] y) (take_at bytes rest 17 long) (drop_at bytes rest 17 long)

-- a byte that begins no reading begins a stretch
pub record StretchFirst (b : ℕ) (ps : List Piece) : Type 0 where
  pub bytes : List ℕ
  pub back : List Piece
  pub is : ps ≡ Dropped (b ∷ bytes) ∷ back

open-stretch : (b : ℕ) (d s : List ℕ) → StretchFirst b (walk 0 (b ∷ d) s)
unfolding ended
open-stretch b d s =
    by-walk (λ d s ps. (rest : List ℕ) → d ≡ b ∷ rest → StretchFirst b ps) (λ d rest (e : d ≡ b ∷ rest). rw e (record { bytes = rest; back = []; is = refl }))
    (λ d s ps f h rest (e : d ≡ b ∷ rest). rw e (record { bytes = rest; back = Kept (take 17 s) ∷ ps; is = refl }))
    (λ d c s ps f h rest (e : d ≡ b ∷ rest). h (rest ++ (c ∷ [])) (ap (λ (x : List ℕ). x ++ (c ∷ [])) e))
    (b ∷ d)
    s
    d
    refl

pub pieces-dropped : (b : ℕ) (s : List ℕ) → begins (b ∷ s) ≡ false → StretchFirst b (pieces (b ∷ s))
unfolding pieces
pieces-dropped b s e = rw (walk-drop [] b s e) (open-stretch b [] s)

walk-quiet : (bytes d s : List ℕ) → Quiet bytes s → walk 0 d (bytes ++ s) ≡ walk 0 (d ++ bytes) s
walk-quiet [] d s silent = ap (λ (x : List ℕ). walk 0 x s) (sym (append-nil d))
walk-quiet (b ∷ bytes) d s (more e q) =
    walk-drop d b (bytes ++ s) e ∙ walk-quiet bytes (d ++ (b ∷ [])) s q ∙ ap (λ (x : List ℕ). walk 0 x s) (append_snoc d b bytes)

pub stand-walk : (ps : List Piece) → Stand ps → (d : List ℕ) → (d ≡ []) ⊎ Closed ps → walk 0 d (joined ps) ≡ ended d ++ ps
unfolding joined ended
stand-walk [] none d f = walk_end d [] refl ∙ sym (append-nil (ended d))
stand-walk (Kept bytes ∷ ps) (kept r h) d f =
    let long = (reading-is bytes r).0 in
    walk-keep d (bytes ++ joined ps) (begins-kept bytes (joined ps) r)
    ∙ ap₂ (λ (x : List ℕ) (qs : List Piece). ended d ++ (Kept x ∷ qs)) (take_at bytes (joined ps) 17 long)
    (ap (walk 0 []) (drop_at bytes (joined ps) 17 long) ∙ stand-walk ps h [] (inl refl))
stand-walk (Dropped [] ∷ ps) (dropped n q c h) d f = absurd (n refl)
stand-walk (Dropped (b ∷ bytes) ∷ ps) (dropped n q c h) d (inl e) =
    ap (λ (x : List ℕ). walk 0 x ((b ∷ bytes) ++ joined ps)) e
    ∙ walk-quiet (b ∷ bytes) [] (joined ps) q
    ∙ stand-walk ps h (b ∷ bytes) (inr c)
    ∙ ap (λ (x : List ℕ). ended x ++ (Dropped (b ∷ bytes) ∷ ps)) (sym e)
stand-walk (Dropped (b ∷ bytes) ∷ ps) (dropped n q c h) d (inr g) = absurd (g (b ∷ bytes) ps refl)
