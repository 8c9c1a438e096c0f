-- Demand 2 of the server, for the very definitions that the contracts of `serve` and `set_status` cite: `served_of` is what one request leaves behind, `setting_of` what one setting does.
-- The statements stand first, each in a sentence and as a type; the proofs follow. What each service answers is in `Demand2Answers`, where each negative code is due in `Demand2Negatives`.
use mathlib.Core.Path.{◌≡◌, refl, sym, ap, ◌∙◌}
use mathlib.Core.Bool.{Bool, true, false}
use mathlib.Core.Logic.{◌≢◌, ◌⊎◌, inl, inr, ⊎_elim, ◌↔◌}
use mathlib.Core.List.{List, [], ◌∷◌}
use Prim.Native.Nat.{ℕ, ◌+◌, ◌≤◌, ◌<◌}
use native.Mathlib.Omega.{arith}
use lib.ListN.{get_or, set, length, take, drop}
use lib.Seq.{get_or-set_other}
use Rattle.std.specs.Prelude.{Option, Some, None, Result, Ok, Err}
use Rattle.identifiers.specs.Bytes.{written}
use Rattle.identifiers.specs.declared.refusal.Refusal.{Refusal}
use Rattle.identifiers.proofs.LawsBytes.{take-written, drop-written}
use Rattle.server.specs.Places.{place_among, held_among}
use Rattle.server.specs.Trailer.{status_within, sound_record, with_statuses}
use Rattle.server.specs.Faults.{cleared_of}
use Rattle.server.specs.Requests.{service_of, group_of, request_of}
use Rattle.server.specs.Silence.{silent_on}
use Rattle.server.specs.Forms.{Reads, unknown_service, too_short, unknown_sub_function, wrong_length, clear_group, count_by_mask, list_by_mask, list_all, read_data, tester_present}
use Rattle.server.specs.Server.{negative_of, positive_of, changed_by, wrong_lengths, Effect, effect, served_of}
use Rattle.server.specs.Status.{Setting, setting_of}
use Rattle.server.specs.declared.trailer.TrailerRecord.{TrailerRecord}
use Rattle.server.specs.declared.requests.Request.{Request}
use Rattle.server.specs.declared.requests.Unread.{Unread}
use Rattle.server.proofs.LawsPlaces.{held_at}
use Rattle.server.proofs.LawsTrailer.{sound-has}
use Rattle.server.proofs.LawsCleared.{clear-way, set-way, within-way, sound-with, cleared-within}
use Rattle.server.proofs.LawsStatus.{setting-1, setting-18, setting-19, setting-set}
use Rattle.server.proofs.LawsRequests.{reads}
use Rattle.server.proofs.LawsServer.{served-1, served-17, served-silent, served-negative, served-positive, right-lengths, negative-bytes, positive-length, Ends, broken, wrong, silent, negative, positive, ends}

-- ---- the statements
-- of one request to a record, physical or functional, with this response buffer
module _ (t : TrailerRecord) (request : List ℕ) (functional : Bool) (response : List ℕ) where
  abbrev pub leaves : Effect
  leaves = served_of t request functional response

  -- a positive clear response: `54` is sent, and "those statuses become `50` AND the availability mask"
  pub record ClearSent : Type 0 where
    pub service : service_of request ≡ 0x14
    pub after : leaves.after ≡ with_statuses t (cleared_of t (group_of request))
    pub reply : leaves.reply ≡ Ok (Some 1)
    pub sent : leaves.response ≡ written response 0 (0x54 ∷ [])

  -- "No fault status changes by a request unless a positive clear response answers it":
  abbrev pub StaysOrCleared : Type 0
  StaysOrCleared = (leaves.after ≡ t) ⊎ ClearSent

  -- and nothing else of the record ever changes.
  abbrev pub OnlyStatuses : Type 0
  OnlyStatuses = leaves.after ≡ with_statuses t leaves.after.statuses

  -- A record that keeps its rules keeps them through every request.
  abbrev pub SoundAfter : Type 0
  SoundAfter = sound_record t ≡ true → sound_record leaves.after ≡ true

  -- what is sent: 1 to 255 bytes, a positive answer that begins with service + 40, or "`7F`, service, code"; "those past the response stay"
  pub record SentBytes (n : ℕ) : Type 0 where
    pub bytes : List ℕ
    pub which : ((negative_of t (request_of request) request ≡ 0) × ((bytes ≡ positive_of t (request_of request) request) × (get_or bytes 0 0 ≡ service_of request + 0x40)))
        ⊎ ((negative_of t (request_of request) request ≢ 0) × (bytes ≡ 0x7F ∷ service_of request ∷ negative_of t (request_of request) request ∷ []))
    pub count : n ≡ length bytes
    pub some : 1 ≤ n
    pub most : n ≤ 255
    pub front : take n leaves.response ≡ bytes
    pub rest : drop n leaves.response ≡ drop n response

  abbrev pub SentReply : Type 0
  SentReply = (n : ℕ) → leaves.reply ≡ Ok (Some n) → SentBytes n

  -- Silent exactly where a record that keeps its rules is asked with the right lengths and the code is silenced by bit 7 or by the functional address.
  abbrev pub SilentExactly : Type 0
  SilentExactly = leaves.reply ≡ Ok None
      ↔ ((sound_record t ≡ true) × ((wrong_lengths (length request) (length response) ≡ false) × (silent_on (request_of request) functional (negative_of t (request_of request) request) ≡ true)))

-- of one setting
module _ (t : TrailerRecord) (code status : ℕ) where
  abbrev pub sets : Setting
  sets = setting_of t code status

  -- "The host can set the status of one code": that one, and nothing else,
  pub record OneSet : Type 0 where
    pub answer : sets.answer ≡ Ok tt
    pub place : place_among t.codes t.count code < t.count
    pub code-there : get_or t.codes (place_among t.codes t.count code) 0 ≡ code
    pub within : status_within t.availability status ≡ true
    pub after : sets.after ≡ with_statuses t (set t.statuses (place_among t.codes t.count code) status)
    pub elsewhere : (i : ℕ) → i ≢ place_among t.codes t.count code → get_or sets.after.statuses i 0 ≡ get_or t.statuses i 0

  -- or it is refused, and the record is as it was;
  abbrev pub OneStatus : Type 0
  OneStatus = (sets.after ≡ t) ⊎ OneSet

  -- and a record that keeps its rules keeps them.
  abbrev pub SoundSet : Type 0
  SoundSet = sound_record t ≡ true → sound_record sets.after ≡ true

-- ---- the proofs
module _ (t : TrailerRecord) (request : List ℕ) (functional : Bool) (response : List ℕ) where
  abbrev left : Effect
  left = leaves t request functional response

  abbrev code : ℕ
  code = negative_of t (request_of request) request

  after_is : {o : Effect} → left ≡ o → left.after ≡ o.after
  after_is e = ap (λ (p : Effect). p.after) e

  reply-is : {o : Effect} → left ≡ o → left.reply ≡ o.reply
  reply-is e = ap (λ (p : Effect). p.reply) e

  response-is : {o : Effect} → left ≡ o → left.response ≡ o.response
  response-is e = ap (λ (p : Effect). p.response) e

  -- a request that is answered positively
  changed : {asked : Result Request Unread} → Reads request asked → left ≡ effect (changed_by t asked) (Ok (Some (length (positive_of t asked request)))) (written response 0 (positive_of t asked request)) → StaysOrCleared t request functional response
  unfolding changed_by positive_of service_of group_of
  changed (unknown_service x) e = inl (after_is e)
  changed (too_short x) e = inl (after_is e)
  changed (unknown_sub_function x) e = inl (after_is e)
  changed (wrong_length x) e = inl (after_is e)
  changed (clear_group s n) e = inr (record { service = s; after = after_is e; reply = reply-is e; sent = response-is e })
  changed (count_by_mask s u n) e = inl (after_is e)
  changed (list_by_mask s u n) e = inl (after_is e)
  changed (list_all s u n) e = inl (after_is e)
  changed (read_data s l o) e = inl (after_is e)
  changed (tester_present s u n) e = inl (after_is e)

  pub stays-or-cleared : StaysOrCleared t request functional response
  stays-or-cleared = by (ends t request functional response)
    where
      by : Ends t request functional response → StaysOrCleared t request functional response
      by (broken a) = inl (after_is (served-1 t request functional response a))
      by (wrong a b) = inl (after_is (served-17 t request functional response a b))
      by (silent a b c) = inl (after_is (served-silent t request functional response a b refl c))
      by (negative a b c d) = inl (after_is (served-negative t request functional response a b refl c d))
      by (positive a b c d) = changed (reads request) (served-positive t request functional response a b refl c d)

  pub only-statuses : OnlyStatuses t request functional response
  only-statuses =
      ⊎_elim (λ (e : left.after ≡ t). e ∙ ap (λ (u : TrailerRecord). with_statuses t u.statuses) (sym e))
      (λ (s : ClearSent t request functional response). s.after ∙ ap (λ (u : TrailerRecord). with_statuses t u.statuses) (sym s.after)) stays-or-cleared

  pub sound-after : SoundAfter t request functional response
  sound-after h =
      ⊎_elim (λ (e : left.after ≡ t). ap sound_record e ∙ h)
      (λ (s : ClearSent t request functional response). ap sound_record s.after ∙ sound-with t _ h (within-way t _ (clear-way t (group_of request)) (cleared-within t.availability) (sound-has t h).statuses)) stays-or-cleared

  -- "service + 40"
  first_byte : {asked : Result Request Unread} → Reads request asked → negative_of t asked request ≡ 0 → get_or (positive_of t asked request) 0 0 ≡ service_of request + 0x40
  unfolding negative_of positive_of service_of
  first_byte (unknown_service x) e = absurd (omega arith)
  first_byte (too_short x) e = absurd (omega arith)
  first_byte (unknown_sub_function x) e = absurd (omega arith)
  first_byte (wrong_length x) e = absurd (omega arith)
  first_byte (clear_group s n) e = sym (ap (λ (x : ℕ). x + 0x40) s)
  first_byte (count_by_mask s u n) e = sym (ap (λ (x : ℕ). x + 0x40) s)
  first_byte (list_by_mask s u n) e = sym (ap (λ (x : ℕ). x + 0x40) s)
  first_byte (list_all s u n) e = sym (ap (λ (x : ℕ). x + 0x40) s)
  first_byte (read_data s l o) e = sym (ap (λ (x : ℕ). x + 0x40) s)
  first_byte (tester_present s u n) e = sym (ap (λ (x : ℕ). x + 0x40) s)

  -- what is written from the start of a buffer that has room for it stands in front, and the rest is as it was
  stands : (bytes : List ℕ) (n : ℕ) → n ≡ length bytes → length bytes ≤ length response → left.response ≡ written response 0 bytes
      → (take n left.response ≡ bytes) × (drop n left.response ≡ drop n response)
  stands bytes n e l w =
      let z : n ≡ 0 + length bytes = omega arith in
      rw (z, w) (take-written response 0 bytes (omega arith), drop-written response 0 bytes)

  pub sent-reply : SentReply t request functional response
  sent-reply n h = by (ends t request functional response)
    where
      no-refusal : (r : Refusal) → ◌≡◌ {A = Result (Option ℕ) Refusal} (Err r) (Ok (Some n)) → ⊥
      no-refusal r e = cc

      no-silence : ◌≡◌ {A = Result (Option ℕ) Refusal} (Ok None) (Ok (Some n)) → ⊥
      no-silence e = cc

      same : (m : ℕ) → ◌≡◌ {A = Result (Option ℕ) Refusal} (Ok (Some m)) (Ok (Some n)) → n ≡ m
      same m e = cc

      by : Ends t request functional response → SentBytes t request functional response n
      by (broken a) = absurd (no-refusal _ (sym (reply-is (served-1 t request functional response a)) ∙ h))
      by (wrong a b) = absurd (no-refusal _ (sym (reply-is (served-17 t request functional response a b)) ∙ h))
      by (silent a b c) = absurd (no-silence (sym (reply-is (served-silent t request functional response a b refl c)) ∙ h))
      by (negative a b c d) =
          let law = served-negative t request functional response a b refl c d in
          let e : n ≡ 3 = same 3 (sym (reply-is law) ∙ h) in
          let room = (right-lengths _ _ b).1.1 in
          let bytes : List ℕ = 0x7F ∷ service_of request ∷ code ∷ [] in
          let s = stands bytes n e (omega arith) (response-is law ∙ ap (written response 0) (negative-bytes _ _)) in
          record { bytes = bytes; which = inr (d, refl); count = e; some = omega arith; most = omega arith; front = s.0; rest = s.1 }
      by (positive a b c d) =
          let law = served-positive t request functional response a b refl c d in
          let e : n ≡ length (positive_of t (request_of request) request) = same _ (sym (reply-is law) ∙ h) in
          let room = (right-lengths _ _ b).1.1 in
          let p = positive-length t (request_of request) request d in
          let s = stands (positive_of t (request_of request) request) n e (omega (arith, p.1, room)) (response-is law) in
          record { bytes = positive_of t (request_of request) request; which = inl (d, (refl, first_byte (reads request) d)); count = e; some = omega (arith, p.0); most = omega (arith, p.1); front = s.0; rest = s.1 }

  pub silent-exactly : SilentExactly t request functional response
  silent-exactly = (λ h. by (ends t request functional response) h, λ k. reply-is (served-silent t request functional response k.0 k.1.0 refl k.1.1))
    where
      no-refusal : (r : Refusal) → ◌≡◌ {A = Result (Option ℕ) Refusal} (Err r) (Ok None) → ⊥
      no-refusal r e = cc

      not-sent : (m : ℕ) → ◌≡◌ {A = Result (Option ℕ) Refusal} (Ok (Some m)) (Ok None) → ⊥
      not-sent m e = cc

      by : Ends t request functional response → left.reply ≡ Ok None → (sound_record t ≡ true) × ((wrong_lengths (length request) (length response) ≡ false) × (silent_on (request_of request) functional code ≡ true))
      by (broken a) h = absurd (no-refusal _ (sym (reply-is (served-1 t request functional response a)) ∙ h))
      by (wrong a b) h = absurd (no-refusal _ (sym (reply-is (served-17 t request functional response a b)) ∙ h))
      by (silent a b c) h = (a, (b, c))
      by (negative a b c d) h = absurd (not-sent _ (sym (reply-is (served-negative t request functional response a b refl c d)) ∙ h))
      by (positive a b c d) h = absurd (not-sent _ (sym (reply-is (served-positive t request functional response a b refl c d)) ∙ h))

module _ (t : TrailerRecord) (code status : ℕ) where
  abbrev place : ℕ
  place = place_among t.codes t.count code

  pub one-status : OneStatus t code status
  one-status = by (sound_record t) (held_among t.codes t.count code) (status_within t.availability status) refl refl refl
    where
      by : (a b c : Bool) → sound_record t ≡ a → held_among t.codes t.count code ≡ b → status_within t.availability status ≡ c → OneStatus t code status
      by false b c p q r = inl (ap (λ (s : Setting). s.after) (setting-1 t code status p))
      by true false c p q r = inl (ap (λ (s : Setting). s.after) (setting-18 t code status p q))
      by true true false p q r = inl (ap (λ (s : Setting). s.after) (setting-19 t code status p q r))
      by true true true p q r =
          let law = setting-set t code status p q r in
          let held = held_at t.codes t.count code q in
          inr (record {
            answer = ap (λ (s : Setting). s.answer) law;
            place = held.0;
            code-there = held.1;
            within = r;
            after = ap (λ (s : Setting). s.after) law;
            elsewhere = λ i n. ap (λ (s : Setting). get_or s.after.statuses i 0) law ∙ get_or-set_other t.statuses place i status 0 n;
          })

  pub sound-set : SoundSet t code status
  sound-set h =
      ⊎_elim (λ (e : (sets t code status).after ≡ t). ap sound_record e ∙ h)
      (λ (s : OneSet t code status). ap sound_record s.after ∙ sound-with t _ h (within-way t status (set-way t.statuses place status) s.within (sound-has t h).statuses)) one-status
