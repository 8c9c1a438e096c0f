-- What each service promises, said of the definitions that the contracts cite: the count and the report by the match rule, and what service 22 answers.
use mathlib.Core.Path.{◌≡◌, refl, sym, ap, ◌∙◌}
use mathlib.Core.Bool.{Bool, true, false, not, not-eq-not}
use mathlib.Core.List.{List, [], ◌∷◌, ◌++◌}
use Prim.Native.Nat.{ℕ, zero, suc, ◌+◌, ◌*◌, ◌≤◌, ◌<◌}
use native.Mathlib.Omega.{arith}
use borrow.Author.Tests.{eqb-true, eq-eqb, ltb-true, ltb-false}
use lib.Dec.{eqb}
use lib.Bits.{bit_and, and_comm}
use lib.ListN.{get_or, length, take, drop, length-append, length-drop}
use lib.Seq.{take-suc, get_or-drop}
use Rattle.identifiers.specs.Choice.{pick, either}
use Rattle.identifiers.specs.Below.{list_below}
use Rattle.identifiers.proofs.LawsChoice.{pick_true, was-taken}
use Rattle.identifiers.proofs.LawsBelow.{all-at, count-each, list-each, list-none, list-suc, list-more, length_more, length-mono}
use Rattle.server.specs.Places.{held_among}
use Rattle.server.specs.Trailer.{status_within, statuses_within, sound_record}
use Rattle.server.specs.Faults.{matches, listed, count_listed, code_and_status, reported, report_of}
use Rattle.server.specs.DataIdentifiers.{asked_count, asked_at, data_of, answer_to, answers_of}
use Rattle.server.specs.Server.{content_of_22}
use Rattle.server.specs.declared.trailer.TrailerRecord.{TrailerRecord}
use Rattle.server.proofs.LawsMask.{and_assoc}
use Rattle.server.proofs.LawsTrailer.{sound-has}
use Rattle.server.proofs.LawsFaults.{length-report}
use Rattle.server.proofs.LawsDataIdentifiers.{length-answer, answer-miss}

-- ---- 19: the count is the number of codes that the report lists
pub counts-what-is-listed : (t : TrailerRecord) (mask : ℕ) → length (report_of t false mask) ≡ 4 * count_listed t false mask
counts-what-is-listed t mask = length-report t false mask

-- 19 0A lists every held code, status 00 too
pub all_listed : (t : TrailerRecord) (mask i : ℕ) → reported true mask (get_or t.codes i 0) (get_or t.statuses i 0) ≡ code_and_status (get_or t.codes i 0) (get_or t.statuses i 0)
unfolding reported listed either pick
all_listed t mask i = refl

-- ---- a mask bit outside the availability never matters
same-match : (availability mask status : ℕ) → status_within availability status ≡ true → listed false mask status ≡ listed false (bit_and mask availability) status
unfolding status_within listed either matches
same-match availability mask status e =
    ap (λ (x : ℕ). not (eqb x 0))
    (sym (ap (bit_and status) (and_comm mask availability) ∙ sym (and_assoc status availability mask) ∙ ap (λ (s : ℕ). bit_and s mask) (eqb-true (bit_and status availability) status e)))

module _ (t : TrailerRecord) (h : sound_record t ≡ true) (mask : ℕ) where
  within : (i : ℕ) → i < t.count → listed false mask (get_or t.statuses i 0) ≡ listed false (bit_and mask t.availability) (get_or t.statuses i 0)
  unfolding statuses_within
  within i l = same-match t.availability mask (get_or t.statuses i 0) (all-at _ i t.count (sound-has t h).statuses l)

  pub count-by-available : count_listed t false mask ≡ count_listed t false (bit_and mask t.availability)
  unfolding count_listed
  count-by-available = count-each _ _ t.count within

  pub report-by-available : report_of t false mask ≡ report_of t false (bit_and mask t.availability)
  unfolding report_of reported
  report-by-available = list-each _ _ t.count (λ i l. rw (within i l))

-- ---- 22: 31 exactly where none of the asked identifiers is held
nothing-each : (f : ℕ → List ℕ) (n j : ℕ) → length (list_below f n) ≡ 0 → j < n → length (f j) ≡ 0
nothing-each f n j e l = omega (arith, length-mono f (j + 1) n (omega arith), length_more f j)

each-nothing : (f : ℕ → List ℕ) (n : ℕ) → ((j : ℕ) → j < n → length (f j) ≡ 0) → length (list_below f n) ≡ 0
each-nothing f zero h = rw list-none
each-nothing f (suc n) h = rw (list-suc, length-append, each-nothing f n (λ j l. h j (omega arith)), h n (omega arith))

not-31 : (b : Bool) → ◌≡◌ {A = ℕ} (pick b 0x14 0) 0x31 → ⊥
unfolding pick
not-31 true e = omega arith
not-31 false e = omega arith

module _ (t : TrailerRecord) (request : List ℕ) where
  pub none-held-31 : ((j : ℕ) → j < asked_count request → held_among t.identifiers t.held (asked_at request j) ≡ false) → content_of_22 t request ≡ 0x31
  unfolding content_of_22 answers_of held_among
  none-held-31 h = pick_true _ _ (eq-eqb _ _ (each-nothing _ (asked_count request) (λ j l. ap length (answer-miss t (asked_at request j) (ltb-false _ _ (h j l))))))

  pub only-none-held-31 : content_of_22 t request ≡ 0x31 → (j : ℕ) → j < asked_count request → held_among t.identifiers t.held (asked_at request j) ≡ false
  unfolding content_of_22 answers_of held_among
  only-none-held-31 e j l =
      not-eq-not.0 (λ q. omega (arith, nothing-each _ (asked_count request) j (eqb-true _ _ (was-taken _ _ _ _ (not-31 _) e).0) l, length-answer t (asked_at request j) _ refl (ltb-true _ _ q)))

-- the data of the identifier at place k: its own bytes, a part of the record's
part : (l : List ℕ) (a n : ℕ) → n ≤ length (drop a l) → list_below (λ j. get_or l (a + j) 0 ∷ []) n ≡ take n (drop a l)
part l a zero h = list-none _
part l a (suc n) h = rw (list-suc, part l a n (omega arith), take-suc (drop a l) n 0 (omega arith), get_or-drop)

pub data-is-part : (t : TrailerRecord) (k : ℕ) → length t.bytes ≡ 512 → k < 16 → get_or t.lengths k 0 ≤ 32 → data_of t k ≡ take (get_or t.lengths k 0) (drop (32 * k) t.bytes)
unfolding data_of
data-is-part t k e l h = part t.bytes (32 * k) (get_or t.lengths k 0) (rw (length-drop (32 * k) t.bytes) (omega arith))

-- as asked, repeats too: what is answered to one more that is asked stands after the rest
pub one-more-asked : (t : TrailerRecord) (request : List ℕ) (n : ℕ)
    → list_below (λ j. answer_to t (asked_at request j)) (n + 1) ≡ list_below (λ j. answer_to t (asked_at request j)) n ++ answer_to t (asked_at request n)
one-more-asked t request n = list-more _ n
