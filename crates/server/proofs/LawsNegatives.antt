-- The negative code of a request, and why it has that one: by how it is read, and then by its content.
use mathlib.Core.Path.{◌≡◌, refl, sym, ap, subst, ◌∙◌}
use mathlib.Core.Bool.{Bool, true, false}
use mathlib.Core.List.{List}
use mathlib.Core.Logic.{◌≢◌}
use Prim.Native.Nat.{ℕ, ◌+◌, ◌*◌, ◌%◌, ◌≤◌}
use native.Mathlib.Omega.{arith}
use borrow.Author.Tests.{eqb-false, ne_eqb, ltb-true, lt-ltb}
use lib.Dec.{eqb, ltb}
use lib.ListN.{get_or, length}
use Rattle.std.specs.Prelude.{Result}
use Rattle.identifiers.specs.Choice.{either}
use Rattle.identifiers.proofs.LawsChoice.{pick_true, pick-false, either-false}
use Rattle.server.specs.Trailer.{sound_record}
use Rattle.server.specs.Faults.{report_of, group_held}
use Rattle.server.specs.DataIdentifiers.{asked_count, asked_at, answers_of}
use Rattle.server.specs.Requests.{request_of}
use Rattle.server.specs.Forms.{UnknownService, TooShort, UnknownSubFunction, WrongLength, Reads, unknown_service, too_short, unknown_sub_function, wrong_length, clear_group, count_by_mask, list_by_mask, list_all, read_data, tester_present}
use Rattle.server.specs.Server.{content_of_14, content_of_19, content_of_22, negative_of}
use Rattle.server.specs.Negatives.{NotHeld, no_code, no_identifier, TooLong, over_255}
use Rattle.server.specs.declared.trailer.TrailerRecord.{TrailerRecord}
use Rattle.server.specs.declared.requests.Request.{Request}
use Rattle.server.specs.declared.requests.Unread.{Unread}
use Rattle.server.proofs.LawsPlaces.{not-held, held-nowhere}
use Rattle.server.proofs.LawsTrailer.{sound-has}
use Rattle.server.proofs.LawsRequests.{reads, reads-exactly}
use Rattle.server.proofs.LawsServer.{content-fits}
use Rattle.server.proofs.Demand2Services.{none-held-31, only-none-held-31}

-- ---- where a code is due it is given
module _ (t : TrailerRecord) (q : List ℕ) where
  pub by-reading : {asked : Result Request Unread} → Reads q asked → negative_of t (request_of q) q ≡ negative_of t asked q
  by-reading d = ap (λ (r : Result Request Unread). negative_of t r q) ((reads-exactly q _).1 d)

  pub due-11 : UnknownService q → negative_of t (request_of q) q ≡ 0x11
  unfolding negative_of
  due-11 u = by-reading (unknown_service u)

  pub due-13-first : TooShort q → negative_of t (request_of q) q ≡ 0x13
  unfolding negative_of
  due-13-first u = by-reading (too_short u)

  pub due-12 : UnknownSubFunction q → negative_of t (request_of q) q ≡ 0x12
  unfolding negative_of
  due-12 u = by-reading (unknown_sub_function u)

  pub due-13 : WrongLength q → negative_of t (request_of q) q ≡ 0x13
  unfolding negative_of
  due-13 u = by-reading (wrong_length u)

  pub due-31 : NotHeld t q → negative_of t (request_of q) q ≡ 0x31
  unfolding negative_of content_of_14 group_held asked_count asked_at either
  due-31 (no_code s n a h) = by-reading (clear_group s n) ∙ pick-false _ _ (rw (ne_eqb _ _ a, held-nowhere t.codes t.count _ h))
  due-31 (no_identifier s l o h) =
      by-reading (read_data s l o) ∙ none-held-31 t q (λ j b. held-nowhere t.identifiers t.held _ (λ k r e. h j k (omega arith) r (e ∙ ap (λ (i : ℕ). get_or q (1 + 2 * j) 0 * 256 + get_or q i 0) (omega arith))))

  pub due-14 : TooLong t q → negative_of t (request_of q) q ≡ 0x14
  unfolding negative_of content_of_22
  due-14 (over_255 s l o h) = by-reading (read_data s l o) ∙ pick-false _ _ (ne_eqb (length (answers_of t q)) 0 (λ z. omega arith)) ∙ pick_true _ _ (lt-ltb _ _ h)

-- ---- why a request has its code: 0 where there is none; a report is too long only where the record does not keep its rules
pub data Why (t : TrailerRecord) (q : List ℕ) : ℕ → Type 0 where
  form-11 : UnknownService q → Why t q 0x11
  form-13-first : TooShort q → Why t q 0x13
  form-12 : UnknownSubFunction q → Why t q 0x12
  form-13 : WrongLength q → Why t q 0x13
  content-31 : NotHeld t q → Why t q 0x31
  content-14 : TooLong t q → Why t q 0x14
  report-14 : sound_record t ≢ true → Why t q 0x14
  none : Why t q 0

module _ (t : TrailerRecord) (q : List ℕ) where
  at : {c d : ℕ} → c ≡ d → Why t q d → Why t q c
  at e w = subst (Why t q) (sym e) w

  abbrev group : ℕ
  group = get_or q 1 0 * 65536 + get_or q 2 0 * 256 + get_or q 3 0

  of-group : get_or q 0 0 ≡ 0x14 → length q ≡ 4 → Why t q (content_of_14 t group)
  unfolding content_of_14 group_held
  of-group s n = by (group_held t group) refl
    where
      by : (b : Bool) → group_held t group ≡ b → Why t q (content_of_14 t group)
      by true h = at (pick_true _ _ h) none
      by false h = let e = either-false _ _ h in at (pick-false _ _ h) (content-31 (no_code s n (eqb-false _ _ e.0) (not-held _ _ _ e.1)))

  -- a report has at most 255 bytes in a record that keeps its rules
  of-report : (all : Bool) (mask : ℕ) → Why t q (content_of_19 t all mask)
  unfolding content_of_19
  of-report all mask = by (ltb 255 (3 + length (report_of t all mask))) refl
    where
      by : (b : Bool) → ltb 255 (3 + length (report_of t all mask)) ≡ b → Why t q (content_of_19 t all mask)
      by false l = at (pick-false _ _ l) none
      by true l = at (pick_true _ _ l) (report-14 (λ h. omega (arith, sym (pick_true 0x14 0 l) ∙ content-fits t all mask (sound-has t h).count)))

  of-data : get_or q 0 0 ≡ 0x22 → 3 ≤ length q → length q % 2 ≡ 1 → Why t q (content_of_22 t q)
  unfolding content_of_22 asked_count asked_at
  of-data s l o = by (eqb (length (answers_of t q)) 0) (ltb 255 (1 + length (answers_of t q))) refl refl
    where
      by : (a b : Bool) → eqb (length (answers_of t q)) 0 ≡ a → ltb 255 (1 + length (answers_of t q)) ≡ b → Why t q (content_of_22 t q)
      by true b z h =
          let c : content_of_22 t q ≡ 0x31 = pick_true _ _ z in
          at c (content-31 (no_identifier s l o (λ j k b r e. not-held t.identifiers t.held (asked_at q j) (only-none-held-31 t q c j (omega arith)) k r (e ∙ ap (λ (i : ℕ). get_or q (1 + 2 * j) 0 * 256 + get_or q i 0) (omega arith)))))
      by false true z h = at (pick-false _ _ z ∙ pick_true _ _ h) (content-14 (over_255 s l o (ltb-true _ _ h)))
      by false false z h = at (pick-false _ _ z ∙ pick-false _ _ h) none

  of-reading : {asked : Result Request Unread} → Reads q asked → Why t q (negative_of t asked q)
  unfolding negative_of
  of-reading (unknown_service x) = form-11 x
  of-reading (too_short x) = form-13-first x
  of-reading (unknown_sub_function x) = form-12 x
  of-reading (wrong_length x) = form-13 x
  of-reading (clear_group s n) = of-group s n
  of-reading (count_by_mask s u n) = none
  of-reading (list_by_mask s u n) = of-report false (get_or q 2 0)
  of-reading (list_all s u n) = of-report true 0
  of-reading (read_data s l o) = of-data s l o
  of-reading (tester_present s u n) = none

  pub why : {c : ℕ} → negative_of t (request_of q) q ≡ c → Why t q c
  why e = subst (Why t q) e (of-reading (reads q))
