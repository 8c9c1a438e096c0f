-- "Earliest field first, then lowest": the refusal of an input that is not too long, said without the reader. By the rungs of a
-- field, and by the first field that refuses.
use Rattle.std.specs.Prelude.{Ok, Err}
use mathlib.Core.Path.{◌≡◌, refl, sym, ap, ◌∙◌}
use mathlib.Core.Bool.{Bool, true, false, not, false≢true}
use mathlib.Core.List.{List}
use mathlib.Core.Logic.{⊎_elim}
use Prim.Native.Nat.{ℕ, zero, suc, ◌+◌, ◌%◌, ◌≤◌, ◌<◌}
use native.Mathlib.Nat.{eq-or-lt_of_le}
use native.Mathlib.Numerals.{add-one}
use native.Mathlib.Omega.{arith}
use borrow.Author.Tests.{ltb-true, ltb-false, ne_eqb, not-false}
use lib.Dec.{ltb}
use lib.ListN.{length}
use Rattle.identifiers.specs.Choice.{pick}
use Rattle.identifiers.specs.Refusals.{refusal, number_of}
use Rattle.identifiers.proofs.LawsChoice.{pick-false}
use Rattle.identifiers.proofs.LawsRefusals.{refusal-of-number}
use Rattle.sheet.specs.Fields.{SheetRead, refused_at, pair_at, cut_short, size_of, wrong_form, sound_content}
use Rattle.sheet.specs.Sheets.{field_offset, field_tag, field_at, fields_begun, sheet_read, applies}
use Rattle.identifiers.specs.declared.refusal.Refusal.{Refusal}
use Rattle.sheet.proofs.LawsFields.{right-form, content-stands, field-22, field-23, field-24, field-accepted, sound-field, not-accepted, same-refused}
use Rattle.sheet.proofs.LawsSheets.{first-all, first-each, first_stops, first_of, sheet-21, sheet-fields}
use Rattle.sheet.proofs.LawsReadings.{by_three, one_size, two_size, three-size}

-- the number applies to the field, and no lower one does
pub record Lowest (s : List ℕ) (j n : ℕ) : Type 0 where
  pub given : applies s j n ≡ true
  pub no_lower : (m : ℕ) → m < n → applies s j m ≡ false

-- a field of the input stands at the offset, no number applies to an earlier one, and the number is the lowest that applies to it
pub record Earliest (s : List ℕ) (n offset : ℕ) : Type 0 where
  pub field : ℕ
  pub begun : field < fields_begun s
  pub place : offset ≡ field_offset field
  pub earlier : (i m : ℕ) → i < field → applies s i m ≡ false
  pub lowest : Lowest s field n

module _ (s : List ℕ) (j : ℕ) where
  cut : Bool
  cut = cut_short s (field_offset j)

  wrong : Bool
  wrong = wrong_form s (field_offset j) (field_tag j)

  sound : Bool
  sound = sound_content s (field_offset j + 3) (field_tag j)

  -- ---- which numbers apply
  applies-22 : applies s j 22 ≡ cut
  unfolding applies pick cut
  applies-22 = refl

  applies-23 : applies s j 23 ≡ wrong
  unfolding applies pick wrong
  applies-23 = refl

  applies-24 : applies s j 24 ≡ not sound
  unfolding applies pick sound
  applies-24 = refl

  applies-other : (n : ℕ) → (n ≡ 22 → ⊥) → (n ≡ 23 → ⊥) → (n ≡ 24 → ⊥) → applies s j n ≡ false
  unfolding applies
  applies-other n a b c = pick-false _ _ (ne_eqb _ _ a) ∙ pick-false _ _ (ne_eqb _ _ b) ∙ pick-false _ _ (ne_eqb _ _ c)

  below-22 : (m : ℕ) → m < 22 → applies s j m ≡ false
  below-22 m l = applies-other m (λ e. omega arith) (λ e. omega arith) (λ e. omega arith)

  below-23 : cut ≡ false → (m : ℕ) → m < 23 → applies s j m ≡ false
  below-23 c m l = ⊎_elim (λ (q : m ≡ 22). ap (applies s j) q ∙ applies-22 ∙ c) (below-22 m) (eq-or-lt_of_le (omega arith))

  below-24 : cut ≡ false → wrong ≡ false → (m : ℕ) → m < 24 → applies s j m ≡ false
  below-24 c f m l = ⊎_elim (λ (q : m ≡ 23). ap (applies s j) q ∙ applies-23 ∙ f) (below-23 c m) (eq-or-lt_of_le (omega arith))

  below-25 : cut ≡ false → wrong ≡ false → sound ≡ true → (m : ℕ) → m < 25 → applies s j m ≡ false
  below-25 c f k m l = ⊎_elim (λ (q : m ≡ 24). ap (applies s j) q ∙ applies-24 ∙ ap not k) (below-24 c f m) (eq-or-lt_of_le (omega arith))

  -- ---- the field's answer, and the numbers that apply to it
  pub accepted-none : field_at s j ≡ Ok tt → (m : ℕ) → applies s j m ≡ false
  unfolding field_at cut wrong sound
  accepted-none e m =
      let k = sound-field s (field_offset j) (field_tag j) e in
      by-test (ltb m 25) refl (below-25 k.whole k.form k.content m)
    where
      by-test : (t : Bool) → ltb m 25 ≡ t → (m < 25 → applies s j m ≡ false) → applies s j m ≡ false
      by-test true h f = f (ltb-true _ _ h)
      by-test false h f = let l : 25 ≤ m = ltb-false _ _ h in applies-other m (λ e. omega arith) (λ e. omega arith) (λ e. omega arith)

  pub none-accepted : ((m : ℕ) → applies s j m ≡ false) → field_at s j ≡ Ok tt
  unfolding field_at cut wrong sound
  none-accepted h = field-accepted s _ _ (sym applies-22 ∙ h 22) (sym applies-23 ∙ h 23) (not-false _ (sym applies-24 ∙ h 24))

  pub refused-lowest : (why : Refusal) (o : ℕ) → field_at s j ≡ refused_at why o → (o ≡ field_offset j) × Lowest s j (number_of why)
  unfolding field_at cut wrong sound
  refused-lowest why o e = by_tests cut wrong sound refl refl refl
    where
      is : (x : Refusal) → field_at s j ≡ refused_at x (field_offset j) → Lowest s j (number_of x) → (o ≡ field_offset j) × Lowest s j (number_of why)
      is x h l =
          let same = same-refused x why (field_offset j) o (sym h ∙ e) in
          (sym same.1, rw same.0 at l)

      by_tests : (c f k : Bool) → cut ≡ c → wrong ≡ f → sound ≡ k → (o ≡ field_offset j) × Lowest s j (number_of why)
      by_tests true f k p q r = is (refusal 22) (field-22 s _ _ p) (record { given = applies-22 ∙ p; no_lower = below-22 })
      by_tests false true k p q r = is (refusal 23) (field-23 s _ _ p q) (record { given = applies-23 ∙ q; no_lower = below-23 p })
      by_tests false false false p q r = is (refusal 24) (field-24 s _ _ p q r) (record { given = applies-24 ∙ ap not r; no_lower = below-24 p q })
      by_tests false false true p q r = absurd (not-accepted why o (sym e ∙ field-accepted s _ _ p q r))

  -- two numbers that are each the lowest are one
  pub lowest-one : (m n : ℕ) → Lowest s j m → Lowest s j n → m ≡ n
  lowest-one m n a b =
      let above : m < n → ⊥ = (λ l. false≢true (sym (b.no_lower m l) ∙ a.given)) in
      let below : n < m → ⊥ = (λ l. false≢true (sym (a.no_lower n l) ∙ b.given)) in
      omega arith

  pub lowest-refused : (why : Refusal) → Lowest s j (number_of why) → field_at s j ≡ refused_at why (field_offset j)
  lowest-refused why l = by_answer (field_at s j) refl
    where
      by_answer : (v : SheetRead) → field_at s j ≡ v → field_at s j ≡ refused_at why (field_offset j)
      by_answer (Ok _) e = absurd (false≢true (sym (accepted-none e (number_of why)) ∙ l.given))
      by_answer (Err r) e =
          let h = refused-lowest r.refusal r.offset e in
          let same : r.refusal ≡ why = sym (refusal-of-number r.refusal) ∙ ap refusal (lowest-one (number_of r.refusal) (number_of why) h.1 l) ∙ refusal-of-number why in
          e ∙ ap (λ (x : Refusal). refused_at x r.offset) same ∙ ap (refused_at why) h.0

  applies-range : (n : ℕ) → applies s j n ≡ true → (22 ≤ n) × (n ≤ 24)
  applies-range n h =
      let low : n < 22 → ⊥ = (λ l. false≢true (sym (below-22 n l) ∙ h)) in
      let high : 24 < n → ⊥ = (λ (l : 24 < n). false≢true (sym (applies-other n (λ e. omega arith) (λ e. omega arith) (λ e. omega arith)) ∙ h)) in
      (omega arith, omega arith)

-- ---- the next field begins where an accepted one ends
next-offset : (j : ℕ) → field_offset (j + 1) ≡ field_offset j + 3 + size_of (field_tag j)
unfolding field_offset field_tag
next-offset j =
    by_three (j % 3) (omega arith)
    (λ (q : j % 3 ≡ 0). let z : size_of (j % 3 + 1) ≡ 1 = rw q one_size in omega arith)
    (λ (q : j % 3 ≡ 1). let z : size_of (j % 3 + 1) ≡ 1 = rw q two_size in omega arith)
    (λ (q : j % 3 ≡ 2). let z : size_of (j % 3 + 1) ≡ 6 = rw q three-size in omega arith)

pub field-ends : (s : List ℕ) (j : ℕ) → field_at s j ≡ Ok tt → (field_offset j + 3 + pair_at s (field_offset j + 1) ≡ field_offset (j + 1)) × (field_offset (j + 1) ≤ length s)
unfolding field_at
field-ends s j e =
    let k = sound-field s (field_offset j) (field_tag j) e in
    let size = (right-form s (field_offset j) (field_tag j) k.form).1 in
    (omega (arith, size, next-offset j), omega (arith, content-stands s (field_offset j) (field_tag j) k.whole k.form, next-offset j))

offset-within : (s : List ℕ) (j : ℕ) → ((i : ℕ) → i < j → field_at s i ≡ Ok tt) → field_offset j ≤ length s
unfolding field_offset
offset-within s zero h = omega arith
offset-within s (suc i) h = rw (add-one i) at (field-ends s i (h i (omega arith))).1

-- ---- the whole input
pub earliest-then-lowest : (s : List ℕ) (why : Refusal) (o : ℕ) → length s ≤ 65535 → sheet_read s ≡ refused_at why o → Earliest s (number_of why) o
earliest-then-lowest s why o h e =
    let r = first_of (field_at s) (fields_begun s) why o (sym (sheet-fields s h) ∙ e) in
    let l = refused-lowest s r.place why o r.refused in
    record {
      field = r.place;
      begun = r.below;
      place = l.0;
      earlier = λ i m k. accepted-none s i (first-all (field_at s) r.place r.earlier i k) m;
      lowest = l.1;
    }

pub earliest-refused : (s : List ℕ) (why : Refusal) (o : ℕ) → length s ≤ 65535 → Earliest s (number_of why) o → sheet_read s ≡ refused_at why o
earliest-refused s why o h e =
    sheet-fields s h
    ∙ first_stops (field_at s) e.field (fields_begun s) why o e.begun (first-each (field_at s) e.field (λ i l. none-accepted s i (λ m. e.earlier i m l)))
    (lowest-refused s e.field why e.lowest ∙ ap (refused_at why) (sym e.place))

pub refused-range : (s : List ℕ) (why : Refusal) (o : ℕ) → length s ≤ 65535 → sheet_read s ≡ refused_at why o → ((22 ≤ number_of why) × (number_of why ≤ 24)) × (o ≤ length s)
refused-range s why o h e =
    let r = earliest-then-lowest s why o h e in
    (applies-range s r.field (number_of why) r.lowest.given, rw r.place (offset-within s r.field (λ i l. none-accepted s i (λ m. r.earlier i m l))))

-- what 21 and the others have in common: a number of two digits, and an offset in the input
pub record Small (why : Refusal) (offset : ℕ) : Type 0 where
  pub number : number_of why ≤ 24
  pub place : offset ≤ 65535

pub refused-small : (s : List ℕ) (why : Refusal) (offset : ℕ) → sheet_read s ≡ refused_at why offset → Small why offset
refused-small s why offset e = by_length (ltb 65535 (length s)) refl
  where
    by_length : (t : Bool) → ltb 65535 (length s) ≡ t → Small why offset
    by_length true h =
        let same = same-refused (refusal 21) why 0 offset (sym (sheet-21 s (ltb-true _ _ h)) ∙ e) in
        record { number = omega (arith, ap number_of same.0); place = omega (arith, same.1) }
    by_length false h =
        let l : length s ≤ 65535 = ltb-false _ _ h in
        let r = refused-range s why offset l e in
        record { number = r.0.1; place = omega (arith, r.1) }
