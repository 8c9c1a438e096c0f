-- Laws of the first field that refuses: none yet, one more, the one that stops, what the whole says of each, and the three of a reading.
use Rattle.std.specs.Prelude.{Ok, Err}
use mathlib.Core.Path.{◌≡◌, refl, sym, ap, ap₂, ◌∙◌}
use mathlib.Core.List.{List}
use mathlib.Core.Logic.{⊎_elim}
use Prim.Native.Nat.{ℕ, zero, suc, ◌+◌, ◌*◌, ◌≤◌, ◌<◌}
use native.Mathlib.Nat.{eq-or-lt_of_le}
use native.Mathlib.Numerals.{add-one}
use native.Mathlib.Omega.{arith}
use borrow.Author.Tests.{ltb-false, lt-ltb, le-ltb}
use lib.ListN.{length}
use Rattle.identifiers.specs.Refusals.{refusal}
use Rattle.identifiers.proofs.LawsChoice.{pick_true, pick-false, was-passed}
use Rattle.sheet.specs.Fields.{SheetRead, refused_at, field_read}
use Rattle.sheet.specs.Sheets.{field_offset, field_tag, field_at, fields_begun, or_next, reading_read, first_refused, sheet_read}
use Rattle.identifiers.specs.declared.refusal.Refusal.{Refusal}
use Rattle.sheet.proofs.LawsFields.{not-accepted}

-- ---- the first that refuses
pub first-none : (f : ℕ → SheetRead) → first_refused f 0 ≡ Ok tt
unfolding first_refused
first-none f = refl

first-suc : (f : ℕ → SheetRead) (n : ℕ) → first_refused f (n + 1) ≡ or_next (first_refused f n) (f n)
unfolding first_refused
first-suc f n = rw (add-one n)

pub first-stays : (f : ℕ → SheetRead) (i n : ℕ) (why : Refusal) (o : ℕ) → i ≤ n → first_refused f i ≡ refused_at why o → first_refused f n ≡ refused_at why o
unfolding first_refused or_next
first-stays f i zero why o l e = let z : i ≡ zero = omega arith in rw z at e
first-stays f i (suc n) why o l e =
    ⊎_elim (λ (q : i ≡ suc n). rw q at e) (λ (q : i < suc n). rw (first-stays f i n why o (omega arith) e)) (eq-or-lt_of_le l)

pub first_stops : (f : ℕ → SheetRead) (i n : ℕ) (why : Refusal) (o : ℕ) → i < n → first_refused f i ≡ Ok tt → f i ≡ refused_at why o → first_refused f n ≡ refused_at why o
unfolding or_next
first_stops f i n why o l h e = first-stays f (i + 1) n why o (omega arith) (rw (first-suc f i, h) e)

pub first-each : (f : ℕ → SheetRead) (n : ℕ) → ((i : ℕ) → i < n → f i ≡ Ok tt) → first_refused f n ≡ Ok tt
unfolding first_refused or_next
first-each f zero h = refl
first-each f (suc n) h = rw (first-each f n (λ i l. h i (omega arith))) (h n (omega arith))

-- what the whole says of each
or-accepted : (a b : SheetRead) → or_next a b ≡ Ok tt → (a ≡ Ok tt) × (b ≡ Ok tt)
unfolding or_next
or-accepted (Ok _) b e = (refl, e)
or-accepted (Err r) b e = absurd (not-accepted r.refusal r.offset e)

pub first-all : (f : ℕ → SheetRead) (n : ℕ) → first_refused f n ≡ Ok tt → (i : ℕ) → i < n → f i ≡ Ok tt
unfolding first_refused
first-all f zero e i l = absurd (omega arith)
first-all f (suc n) e i l =
    let h = or-accepted (first_refused f n) (f n) e in
    ⊎_elim (λ (q : i ≡ n). ap f q ∙ h.1) (λ (q : i < n). first-all f n h.0 i q) (eq-or-lt_of_le (omega arith))

-- a refusal is that of the first that refuses
pub record FirstOf (f : ℕ → SheetRead) (n : ℕ) (why : Refusal) (o : ℕ) : Type 0 where
  pub place : ℕ
  pub below : place < n
  pub earlier : first_refused f place ≡ Ok tt
  pub refused : f place ≡ refused_at why o

pub first_of : (f : ℕ → SheetRead) (n : ℕ) (why : Refusal) (o : ℕ) → first_refused f n ≡ refused_at why o → FirstOf f n why o
unfolding first_refused or_next
first_of f zero why o e = absurd (not-accepted why o (sym e))
first_of f (suc n) why o e = by_answer (first_refused f n) refl (first_of f n why o)
  where
    by_answer : (v : SheetRead) → first_refused f n ≡ v → (first_refused f n ≡ refused_at why o → FirstOf f n why o) → FirstOf f (suc n) why o
    by_answer (Ok _) h more = record { place = n; below = omega arith; earlier = h; refused = rw h at e }
    by_answer (Err r) h more =
        let same : Err r ≡ refused_at why o = rw h at e in
        let first = more (h ∙ same) in
        record { place = first.place; below = omega (arith, first.below); earlier = first.earlier; refused = first.refused }

-- ---- the whole input
-- behind the fields of the first readings, those of the next one
pub first-reading : (s : List ℕ) (number : ℕ) → first_refused (field_at s) (3 * number) ≡ Ok tt → first_refused (field_at s) (3 * (number + 1)) ≡ reading_read s (17 * number)
unfolding field_at field_offset field_tag or_next reading_read
first-reading s number h =
    let n = 3 * number in
    let at = 17 * number in
    let e : 3 * (number + 1) ≡ n + 1 + 1 + 1 = omega arith in
    let position : field_at s n ≡ field_read s at 1 = ap₂ (field_read s) (omega arith) (omega arith) in
    let mask : field_at s (n + 1) ≡ field_read s (at + 4) 2 = ap₂ (field_read s) (omega arith) (omega arith) in
    let response : field_at s (n + 1 + 1) ≡ field_read s (at + 8) 3 = ap₂ (field_read s) (omega arith) (omega arith) in
    rw (e, first-suc (field_at s) (n + 1 + 1), first-suc (field_at s) (n + 1), first-suc (field_at s) n, h) (ap₂ or_next (ap₂ or_next position mask) response)

pub sheet-21 : (s : List ℕ) → 65535 < length s → sheet_read s ≡ refused_at (refusal 21) 0
unfolding sheet_read
sheet-21 s h = pick_true _ _ (lt-ltb _ _ h)

pub sheet-fields : (s : List ℕ) → length s ≤ 65535 → sheet_read s ≡ first_refused (field_at s) (fields_begun s)
unfolding sheet_read
sheet-fields s h = pick-false _ _ (le-ltb _ _ h)

pub accepted-short : (s : List ℕ) → sheet_read s ≡ Ok tt → length s ≤ 65535
unfolding sheet_read
accepted-short s e = ltb-false _ _ (was-passed _ _ _ _ (not-accepted (refusal 21) 0) e).0

pub accepted-fields : (s : List ℕ) → sheet_read s ≡ Ok tt → (j : ℕ) → j < fields_begun s → field_at s j ≡ Ok tt
accepted-fields s e = first-all (field_at s) (fields_begun s) (sym (sheet-fields s (accepted-short s e)) ∙ e)
