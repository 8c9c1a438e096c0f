-- What each request is answered, whole: the record afterwards, the answer and every byte of the response buffer.
use mathlib.Core.Path.{◌≡◌, refl, ap, ◌∙◌}
use mathlib.Core.Bool.{Bool, true, false}
use mathlib.Core.List.{List, [], ◌∷◌}
use Prim.Native.Nat.{ℕ, ◌+◌, ◌*◌, ◌%◌, ◌≤◌, ◌<◌}
use native.Mathlib.Omega.{arith}
use borrow.Author.Tests.{ne_eqb, le-ltb}
use lib.ListN.{get_or, length}
use Rattle.std.specs.Prelude.{Some, Ok}
use Rattle.identifiers.specs.Bytes.{written}
use Rattle.identifiers.proofs.LawsChoice.{pick_true, pick-false}
use Rattle.server.specs.Places.{place_among, held_among}
use Rattle.server.specs.Trailer.{sound_record, with_statuses}
use Rattle.server.specs.Faults.{count_listed, two_bytes, report_of, group_held, cleared_of}
use Rattle.server.specs.DataIdentifiers.{data_of, answers_of}
use Rattle.server.specs.Silence.{silenced}
use Rattle.server.specs.Forms.{clear_group, count_by_mask, list_by_mask, list_all, read_data, tester_present}
use Rattle.server.specs.Server.{content_of_14, content_of_22, negative_of, positive_of, changed_by, effect, served_of}
use Rattle.server.specs.Negatives.{nothing_sent}
use Rattle.server.specs.declared.trailer.TrailerRecord.{TrailerRecord}
use Rattle.server.proofs.LawsPlaces.{held_at}
use Rattle.server.proofs.LawsTrailer.{sound-has, length-within}
use Rattle.server.proofs.LawsFaults.{length-report}
use Rattle.server.proofs.LawsDataIdentifiers.{length-data}
use Rattle.server.proofs.LawsServer.{content-fits}
use Rattle.server.proofs.LawsAnswers.{count-bytes, all-counted, data-answers, answered-sent, answered-silent}

-- ---- what each request is answered, by a record that keeps its rules, into a buffer of 255 bytes
module _ (t : TrailerRecord) (sound : sound_record t ≡ true) (functional : Bool) (response : List ℕ) (room : length response ≡ 255) where
  few : t.count ≤ 63
  few = (sound-has t sound).count

  -- "14 and a 3-byte group, length 4: `FFFFFF` or a held code; those statuses become `50` AND the availability mask. Answer `54`."
  pub clear-answered : (a b c : ℕ) → group_held t (a * 65536 + b * 256 + c) ≡ true
      → served_of t (0x14 ∷ a ∷ b ∷ c ∷ []) functional response ≡ effect (with_statuses t (cleared_of t (a * 65536 + b * 256 + c))) (Ok (Some 1)) (written response 0 (0x54 ∷ []))
  unfolding negative_of content_of_14 silenced changed_by positive_of
  clear-answered a b c h = answered-sent t sound functional response room _ (clear_group refl refl) (omega arith) (omega arith) (pick_true _ _ h) refl refl

  -- "19 01 mask, length 3: `59 01`, availability, `03`, count in two bytes": of at most 63 codes, so the high one is 0
  pub count-answered : (mask : ℕ)
      → served_of t (0x19 ∷ 0x01 ∷ mask ∷ []) functional response ≡ effect t (Ok (Some 6)) (written response 0 (0x59 ∷ 0x01 ∷ t.availability ∷ 0x03 ∷ 0x00 ∷ count_listed t false mask ∷ []))
  unfolding negative_of silenced changed_by positive_of two_bytes
  count-answered mask =
      answered-sent t sound functional response room _ (count_by_mask refl refl refl) (omega arith) (omega arith) refl refl refl
      ∙ ap (λ (l : List ℕ). effect t (Ok (Some 6)) (written response 0 (0x59 ∷ 0x01 ∷ t.availability ∷ 0x03 ∷ l))) (count-bytes t mask few)

  -- "19 02 mask, length 3: `59 02`, availability, then code and status of each match, in order"
  pub report-answered : (mask : ℕ)
      → served_of t (0x19 ∷ 0x02 ∷ mask ∷ []) functional response ≡ effect t (Ok (Some (3 + 4 * count_listed t false mask))) (written response 0 (0x59 ∷ 0x02 ∷ t.availability ∷ report_of t false mask))
  unfolding negative_of silenced changed_by positive_of
  report-answered mask = answered-sent t sound functional response room _ (list_by_mask refl refl refl) (omega arith) (omega arith) (content-fits t false mask few) refl (omega (arith, length-report t false mask))

  -- "19 0A, length 2: `59 0A` and all likewise"
  pub all-answered : served_of t (0x19 ∷ 0x0A ∷ []) functional response ≡ effect t (Ok (Some (3 + 4 * t.count))) (written response 0 (0x59 ∷ 0x0A ∷ t.availability ∷ report_of t true 0))
  unfolding negative_of silenced changed_by positive_of
  all-answered = answered-sent t sound functional response room _ (list_all refl refl refl) (omega arith) (omega arith) (content-fits t true 0 few) refl (omega (arith, length-report t true 0, all-counted t))

  -- "22, odd length 3 or more: `62`, then identifier and data for each held one as asked, repeats too": where one is held, in at most 255 bytes
  pub identifiers-answered : (request : List ℕ) → get_or request 0 0 ≡ 0x22 → 3 ≤ length request → length request ≤ 255 → length request % 2 ≡ 1
      → 0 < length (answers_of t request) → 1 + length (answers_of t request) ≤ 255
      → served_of t request functional response ≡ effect t (Ok (Some (1 + length (answers_of t request)))) (written response 0 (0x62 ∷ answers_of t request))
  unfolding negative_of content_of_22 silenced changed_by positive_of
  identifiers-answered q s least most odd one fits =
      answered-sent t sound functional response room q (read_data s least odd) (omega arith) most (pick-false _ _ (ne_eqb (length (answers_of t q)) 0 (λ z. omega arith)) ∙ pick-false _ _ (le-ltb 255 _ fits)) refl (omega arith)

  -- and one identifier that is held always fits, as it has at most 32 bytes
  pub data-answered : (a b : ℕ) → a < 256 → b < 256 → held_among t.identifiers t.held (a * 256 + b) ≡ true
      → served_of t (0x22 ∷ a ∷ b ∷ []) functional response
      ≡ effect t (Ok (Some (3 + get_or t.lengths (place_among t.identifiers t.held (a * 256 + b)) 0))) (written response 0 (0x62 ∷ a ∷ b ∷ data_of t (place_among t.identifiers t.held (a * 256 + b))))
  data-answered a b l m h =
      let k = place_among t.identifiers t.held (a * 256 + b) in
      let short = length-within t k (sound-has t sound).lengths (held_at t.identifiers t.held (a * 256 + b) h).0 in
      let own = length-data t k in
      let e = data-answers t a b l m h in
      let n : 3 + get_or t.lengths k 0 ≡ 1 + length (answers_of t (0x22 ∷ a ∷ b ∷ [])) = omega (arith, ap length e) in
      rw (n, ← e) (identifiers-answered (0x22 ∷ a ∷ b ∷ []) refl (omega arith) (omega arith) refl (omega (arith, ap length e)) (omega (arith, ap length e)))

  -- "3E 00, length 2: `7E 00`"
  pub present-answered : served_of t (0x3E ∷ 0x00 ∷ []) functional response ≡ effect t (Ok (Some 2)) (written response 0 (0x7E ∷ 0x00 ∷ []))
  unfolding negative_of silenced changed_by positive_of
  present-answered = answered-sent t sound functional response room _ (tester_present refl refl refl) (omega arith) (omega arith) refl refl refl

  -- "Bit 7 of a sub-function (19, 3E) silences a positive answer": 19 81, 19 82, 19 8A and 3E 80
  pub count-silenced : (mask : ℕ) → served_of t (0x19 ∷ 0x81 ∷ mask ∷ []) functional response ≡ nothing_sent t response
  unfolding negative_of silenced
  count-silenced mask = answered-silent t sound functional response room _ (count_by_mask refl refl refl) (omega arith) (omega arith) refl refl

  pub report-silenced : (mask : ℕ) → served_of t (0x19 ∷ 0x82 ∷ mask ∷ []) functional response ≡ nothing_sent t response
  unfolding negative_of silenced
  report-silenced mask = answered-silent t sound functional response room _ (list_by_mask refl refl refl) (omega arith) (omega arith) (content-fits t false mask few) refl

  pub all-silenced : served_of t (0x19 ∷ 0x8A ∷ []) functional response ≡ nothing_sent t response
  unfolding negative_of silenced
  all-silenced = answered-silent t sound functional response room _ (list_all refl refl refl) (omega arith) (omega arith) (content-fits t true 0 few) refl

  pub present-silenced : served_of t (0x3E ∷ 0x80 ∷ []) functional response ≡ nothing_sent t response
  unfolding negative_of silenced
  present-silenced = answered-silent t sound functional response room _ (tester_present refl refl refl) (omega arith) (omega arith) refl refl
