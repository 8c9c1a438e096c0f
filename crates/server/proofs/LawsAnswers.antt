-- Laws of the positive answers: their bytes, and the effect of a request that has no negative code, sent or silenced.
use mathlib.Core.Path.{◌≡◌, refl, sym, ap, ◌∙◌}
use mathlib.Core.Bool.{Bool, true, false}
use mathlib.Core.List.{List, [], ◌∷◌, ◌++◌}
use Prim.Native.Nat.{ℕ, ◌+◌, ◌*◌, ◌/◌, ◌%◌, ◌≤◌, ◌<◌}
use native.Mathlib.Omega.{arith}
use lib.ListN.{get_or, length}
use Rattle.std.specs.Prelude.{Some, None, Result, Ok}
use Rattle.identifiers.specs.Choice.{either}
use Rattle.identifiers.specs.Bytes.{written}
use Rattle.identifiers.proofs.LawsBelow.{count-all, list-none, list-suc}
use Rattle.server.specs.Places.{place_among, held_among}
use Rattle.server.specs.Trailer.{sound_record}
use Rattle.server.specs.Faults.{listed, count_listed, two_bytes}
use Rattle.server.specs.DataIdentifiers.{asked_count, asked_at, data_of, identifier_and_data, answer_to, answers_of}
use Rattle.server.specs.Silence.{silenced}
use Rattle.server.specs.Forms.{Reads}
use Rattle.server.specs.Server.{negative_of, positive_of, changed_by, effect, served_of}
use Rattle.server.specs.declared.trailer.TrailerRecord.{TrailerRecord}
use Rattle.server.specs.declared.requests.Request.{Request}
use Rattle.server.specs.declared.requests.Unread.{Unread}
use Rattle.server.proofs.LawsPlaces.{held_at}
use Rattle.server.proofs.LawsFaults.{count-listed-le}
use Rattle.server.proofs.LawsDataIdentifiers.{answer-hit}
use Rattle.server.proofs.LawsRequests.{reads-exactly}
use Rattle.server.proofs.LawsSilence.{silent-positive}
use Rattle.server.proofs.LawsServer.{lengths-right, served-silent, served-positive}

-- ---- the bytes
module _ (t : TrailerRecord) where
  pub count-bytes : (mask : ℕ) → t.count ≤ 63 → two_bytes (count_listed t false mask) ≡ 0x00 ∷ count_listed t false mask ∷ []
  unfolding two_bytes
  count-bytes mask l =
      let few = count-listed-le t false mask in
      let high : count_listed t false mask / 256 % 256 ≡ 0x00 = omega arith in
      let low : count_listed t false mask % 256 ≡ count_listed t false mask = omega arith in
      rw (high, low)

  pub all-counted : count_listed t true 0 ≡ t.count
  unfolding count_listed listed either
  all-counted = count-all _ t.count (λ i l. refl)

  pub data-answers : (a b : ℕ) → a < 256 → b < 256 → held_among t.identifiers t.held (a * 256 + b) ≡ true
      → answers_of t (0x22 ∷ a ∷ b ∷ []) ≡ a ∷ b ∷ data_of t (place_among t.identifiers t.held (a * 256 + b))
  unfolding answers_of asked_count asked_at identifier_and_data two_bytes
  data-answers a b l m h =
      let k = place_among t.identifiers t.held (a * 256 + b) in
      let found = held_at t.identifiers t.held (a * 256 + b) h in
      let high : get_or t.identifiers k 0 / 256 % 256 ≡ a = omega (arith, found.1) in
      let low : get_or t.identifiers k 0 % 256 ≡ b = omega (arith, found.1) in
      list-suc _ 0 ∙ ap (λ (x : List ℕ). x ++ answer_to t (a * 256 + b)) (list-none _) ∙ sym (answer-hit t (a * 256 + b) k refl found.0) ∙ ap (λ (x : ℕ). x ∷ get_or t.identifiers k 0 % 256 ∷ data_of t k) high
      ∙ ap (λ (x : ℕ). a ∷ x ∷ data_of t k) low

-- ---- a request that has no negative code: its answer is sent where bit 7 is clear, and silenced where it is set
module _ (t : TrailerRecord) (sound : sound_record t ≡ true) (functional : Bool) (response : List ℕ) (room : length response ≡ 255) {asked : Result Request Unread} (q : List ℕ) (read : Reads q asked) (some : 1 ≤ length q) (most : length q ≤ 255) (none : negative_of t asked q ≡ 0) where
  pub answered-sent : {n : ℕ} → silenced asked ≡ false → length (positive_of t asked q) ≡ n → served_of t q functional response ≡ effect (changed_by t asked) (Ok (Some n)) (written response 0 (positive_of t asked q))
  answered-sent loud e =
      served-positive t q functional response sound (lengths-right _ _ some most room) ((reads-exactly q asked).1 read) (silent-positive asked functional none ∙ loud) none
      ∙ ap (λ (m : ℕ). effect (changed_by t asked) (Ok (Some m)) (written response 0 (positive_of t asked q))) e

  pub answered-silent : silenced asked ≡ true → served_of t q functional response ≡ effect t (Ok None) response
  answered-silent quiet = served-silent t q functional response sound (lengths-right _ _ some most room) ((reads-exactly q asked).1 read) (silent-positive asked functional none ∙ quiet)
