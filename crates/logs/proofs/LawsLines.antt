-- Laws of a line read: what is answered where, as the definition's tests stand.
use mathlib.Core.Path.{◌≡◌, refl, sym, ap, ◌∙◌}
use mathlib.Core.Bool.{Bool, true, false, ◌&&◌}
use mathlib.Core.List.{List}
use Prim.Native.Nat.{ℕ, ◌^◌, ◌≤◌, ◌<◌}
use native.Mathlib.Omega.{arith}
use borrow.Author.Tests.{eq-eqb, ne_eqb, le-leb, lt-leb, eqb-true}
use lib.Dec.{leb, eqb}
use lib.ListN.{length}
use Rattle.std.specs.Prelude.{Option, Some, None, Ok, Err}
use Rattle.identifiers.specs.Choice.{pick, both}
use Rattle.identifiers.specs.Refusals.{refusal}
use Rattle.identifiers.proofs.LawsChoice.{and_is, both_false, stop, so, pick_true, pick-false, taken, passed}
use Rattle.logs.specs.Outcomes.{data_bytes, frame_said}
use Rattle.logs.specs.Lines.{is_three, line_bytes, end_at, begins, line_stamp, line_number, said, line_read}
use Rattle.logs.specs.Scans.{name_reads, scanned}
use Rattle.logs.specs.declared.answer.DataBytes.{DataBytes}
use Rattle.logs.specs.declared.scan.Scanned.{Scanned}
use Rattle.logs.proofs.LawsFound.{some_picked, none_picked}

-- ---- what the parts say
pub name-reads : {number : Option ℕ} {stamp : ℕ} {bytes : DataBytes} (l : List ℕ) → number ≡ pick (is_three l) None (Some (line_number l)) → stamp ≡ line_stamp l → bytes ≡ data_bytes (line_bytes l)
    → name_reads number stamp bytes ≡ said l
unfolding said pick
name-reads l e f g = rw (e, f, g) (by_three (is_three l))
  where
    by_three : (t : Bool) → name_reads (pick t None (Some (line_number l))) (line_stamp l) (data_bytes (line_bytes l))
        ≡ pick t (Ok None) (pick (leb (2 ^ 29) (line_number l)) (Err (refusal 2)) (frame_said (line_number l) (line_stamp l) (line_bytes l)))
    by_three true = refl
    by_three false = refl

-- a scan of a text that begins with a line's parts says what these say
module _ (l : List ℕ) where
  pub scan-some : {s : Scanned} → Some s ≡ scanned l → (begins l ≡ true) × (s ≡ record { end = end_at l; line = said l })
  unfolding scanned
  scan-some e = some_picked _ e

  pub scan-none : None ≡ scanned l → begins l ≡ false
  unfolding scanned
  scan-none e = none_picked _ _ e

  -- ---- the whole line
  pub line-whole : begins l ≡ true → end_at l ≡ length l → end_at l ≤ 255 → line_read l ≡ said l
  unfolding line_read both
  line-whole e f g = rw (e, eq-eqb _ _ f, le-leb _ _ g) (pick_true _ _ refl)

  pub line-not : begins l ≡ false → line_read l ≡ Err (refusal 25)
  unfolding line_read both
  line-not e = pick-false _ _ (sym (stop _ e))

  pub line-more : (end_at l ≡ length l → ⊥) → line_read l ≡ Err (refusal 25)
  unfolding line_read
  line-more n = pick-false _ _ (ap (both (begins l)) (sym (stop _ (ne_eqb _ _ n))) ∙ both_false (begins l))

  pub line-long : 255 < length l → line_read l ≡ Err (refusal 25)
  unfolding line_read both
  line-long h = by_end (eqb (end_at l) (length l)) refl
    where
      by_end : (t : Bool) → eqb (end_at l) (length l) ≡ t → pick (both (begins l) (both t (leb (end_at l) 255))) (said l) (Err (refusal 25)) ≡ Err (refusal 25)
      by_end true q = let e : end_at l ≡ length l = eqb-true _ _ q in pick-false _ _ (ap (both (begins l)) (lt-leb (end_at l) 255 (omega arith)) ∙ both_false (begins l))
      by_end false q = pick-false _ _ (both_false (begins l))

  -- ---- as the code asks it
  pub read-none : None ≡ scanned l → Err (refusal 25) ≡ line_read l
  read-none e = sym (line-not (scan-none e))

  module _ {s : Scanned} (e : Some s ≡ scanned l) where
    read-test : (eqb s.end (length l) && leb s.end 255) ≡ both (begins l) (both (eqb (end_at l) (length l)) (leb (end_at l) 255))
    read-test =
        let f = scan-some e in
        and_is _ _ ∙ ap (λ (x : Scanned). both (eqb x.end (length l)) (leb x.end 255)) f.1 ∙ so f.0 refl

    pub read_whole : (eqb s.end (length l) && leb s.end 255) ≡ true → s.line ≡ line_read l
    unfolding line_read
    read_whole q = taken _ (sym read-test ∙ q) (ap (λ (x : Scanned). x.line) (scan-some e).1)

    pub read-25 : (eqb s.end (length l) && leb s.end 255) ≡ false → Err (refusal 25) ≡ line_read l
    unfolding line_read
    read-25 q = passed _ (sym read-test ∙ q) refl
