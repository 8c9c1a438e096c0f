-- Laws of the walk: where a reading begins and where none does, one step, and what holds of every walk.
use mathlib.Core.Path.{◌≡◌, refl, sym, ap, ◌∙◌}
use mathlib.Core.Bool.{Bool, true, false, false≢true}
use mathlib.Core.List.{List, [], ◌∷◌, ◌++◌}
use Prim.Native.Nat.{ℕ, zero, suc, ◌≤◌}
use native.Mathlib.Omega.{arith}
use borrow.Author.Tests.{eqb-true, eq-eqb}
use lib.ListN.{length, get_or, take, drop, length-take, length-drop}
use lib.Seq.{length-take-le}
use Rattle.std.specs.Prelude.{Ok, Err}
use Rattle.identifiers.proofs.LawsChoice.{pick_true, pick-false, both_true, so}
use Rattle.sheet.specs.Sheets.{sheet_read}
use Rattle.sheet.specs.Fields.{SheetRead}
use Rattle.sheet.proofs.LawsFields.{Head}
use Rattle.sheet.proofs.LawsReadings.{accepted-whole, accepted-length}
use Rattle.mending.specs.Pieces.{accepts, is_reading, begins, Piece, Kept, ended, walk}

-- ---- a whole valid reading
accepts-is : (r : SheetRead) → accepts r ≡ true → r ≡ Ok tt
unfolding accepts
accepts-is (Ok _) e = refl
accepts-is (Err _) e = absurd (false≢true e)

pub reading-is : (bytes : List ℕ) → is_reading bytes ≡ true → (length bytes ≡ 17) × (sheet_read bytes ≡ Ok tt)
unfolding is_reading
reading-is bytes e = let h = both_true _ _ e in (eqb-true _ _ h.0, accepts-is (sheet_read bytes) h.1)

-- what the code asks: enough bytes, then the count sheet
pub begins-judged : (s : List ℕ) (r : SheetRead) → 17 ≤ length s → sheet_read (take 17 s) ≡ r → accepts r ≡ begins s
unfolding begins is_reading
begins-judged s r l e = so (eq-eqb _ _ (length-take-le 17 s l)) (ap accepts (sym e))

pub begins-whole : (s : List ℕ) → begins s ≡ true → 17 ≤ length s
unfolding begins
begins-whole s e = omega (arith, (reading-is (take 17 s) e).0, length-take 17 s)

-- a reading begins with the tag and the length of its first field; where a byte of these is another, none does
reading-head : (bytes : List ℕ) → is_reading bytes ≡ true → Head bytes 0 1 1
reading-head bytes e = let h = reading-is bytes e in (accepted-whole bytes 0 h.1 (omega (arith, accepted-length bytes h.1, h.0))).first

no-reading : (bytes : List ℕ) → (Head bytes 0 1 1 → ⊥) → false ≡ is_reading bytes
no-reading bytes n = by-test (is_reading bytes) refl
  where
    by-test : (t : Bool) → is_reading bytes ≡ t → false ≡ is_reading bytes
    by-test true e = absurd (n (reading-head bytes e))
    by-test false e = sym e

pub other_tag : (bytes : List ℕ) → (get_or bytes 0 0 ≡ 1 → ⊥) → false ≡ is_reading bytes
other_tag bytes n = no-reading bytes (λ h. n h.tagged)

pub other_high : (bytes : List ℕ) → (get_or bytes 1 0 ≡ 0 → ⊥) → false ≡ is_reading bytes
other_high bytes n = no-reading bytes (λ h. n h.high)

pub other_low : (bytes : List ℕ) → (get_or bytes 2 0 ≡ 1 → ⊥) → false ≡ is_reading bytes
other_low bytes n = no-reading bytes (λ h. n h.low)

pub begins-not : (s : List ℕ) → (sheet_read (take 17 s) ≡ Ok tt → ⊥) → begins s ≡ false
unfolding begins
begins-not s n = by-test (begins s) refl
  where
    by-test : (t : Bool) → begins s ≡ t → begins s ≡ false
    by-test true e = absurd (n (reading-is (take 17 s) e).1)
    by-test false e = e

pub is-reading : (bytes : List ℕ) → length bytes ≡ 17 → sheet_read bytes ≡ Ok tt → is_reading bytes ≡ true
unfolding is_reading accepts
is-reading bytes l e = sym (so (eq-eqb _ _ l) (ap accepts (sym e)))

-- ---- one step
pub ended-none : ended [] ≡ []
unfolding ended
ended-none = refl

pub walk_end : (dropped s : List ℕ) → length s ≡ 0 → walk 0 dropped s ≡ ended dropped
unfolding walk
walk_end dropped [] e = refl
walk_end dropped (b ∷ s) e = absurd (omega arith)

walk-past : (n : ℕ) (dropped s : List ℕ) → walk n dropped s ≡ walk 0 dropped (drop n s)
unfolding walk
walk-past zero dropped s = refl
walk-past (suc n) dropped [] = refl
walk-past (suc n) dropped (b ∷ s) = walk-past n dropped s

pub walk-keep : (dropped s : List ℕ) → begins s ≡ true → walk 0 dropped s ≡ ended dropped ++ (Kept (take 17 s) ∷ walk 0 [] (drop 17 s))
unfolding walk
walk-keep dropped [] e = absurd (omega (arith, begins-whole [] e))
walk-keep dropped (b ∷ s) e =
    pick_true _ _ e ∙ ap (λ (ps : List Piece). ended dropped ++ (Kept (take 17 (b ∷ s)) ∷ ps)) (walk-past 16 [] s)

pub walk-drop : (dropped : List ℕ) (b : ℕ) (s : List ℕ) → begins (b ∷ s) ≡ false → walk 0 dropped (b ∷ s) ≡ walk 0 (dropped ++ (b ∷ [])) s
unfolding walk
walk-drop dropped b s e = pick-false _ _ e

-- ---- every walk
-- what holds at the end, where a reading is kept and where a byte is dropped, holds of the whole walk
module _ (P : List ℕ → List ℕ → List Piece → Type 0) (ends : (dropped : List ℕ) → P dropped [] (ended dropped))
    (keeps : (dropped s : List ℕ) (ps : List Piece) → begins s ≡ true → P [] (drop 17 s) ps → P dropped s (ended dropped ++ (Kept (take 17 s) ∷ ps)))
    (drops : (dropped : List ℕ) (b : ℕ) (s : List ℕ) (ps : List Piece) → begins (b ∷ s) ≡ false → P (dropped ++ (b ∷ [])) s ps → P dropped (b ∷ s) ps) where
  by-steps : (n : ℕ) (dropped s : List ℕ) → length s ≤ n → P dropped s (walk 0 dropped s)
  by-steps zero dropped [] l = rw (walk_end dropped [] refl) (ends dropped)
  by-steps zero dropped (b ∷ s) l = absurd (omega arith)
  by-steps (suc n) dropped [] l = rw (walk_end dropped [] refl) (ends dropped)
  by-steps (suc n) dropped (b ∷ s) l = by-test (begins (b ∷ s)) refl (λ d r m. by-steps n d r m)
    where
      by-test : (t : Bool) → begins (b ∷ s) ≡ t → ((d r : List ℕ) → length r ≤ n → P d r (walk 0 d r)) → P dropped (b ∷ s) (walk 0 dropped (b ∷ s))
      by-test true e more =
          let rest = drop 17 (b ∷ s) in
          rw (walk-keep dropped (b ∷ s) e) (keeps dropped (b ∷ s) (walk 0 [] rest) e (more [] rest (omega (arith, length-drop 17 (b ∷ s)))))
      by-test false e more = rw (walk-drop dropped b s e) (drops dropped b s (walk 0 (dropped ++ (b ∷ [])) s) e (more (dropped ++ (b ∷ [])) s (omega arith)))

  pub by-walk : (dropped s : List ℕ) → P dropped s (walk 0 dropped s)
  by-walk dropped s = by-steps (length s) dropped s (omega arith)
