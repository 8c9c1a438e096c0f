-- Which requests are answered which negative code, both ways: the code is given where it is due, and nowhere else.
use mathlib.Core.Path.{◌≡◌, refl, sym, ap, ◌∙◌}
use mathlib.Core.Bool.{Bool, true, false}
use mathlib.Core.List.{List, [], ◌∷◌}
use mathlib.Core.Logic.Iff
use mathlib.Core.Logic.{◌≢◌, ◌↔◌, ◌⊎◌, inl, inr, ⊎_elim}
use Prim.Native.Nat.{ℕ, ◌≤◌}
use native.Mathlib.Omega.{arith}
use lib.ListN.{get_or, length, take}
use Rattle.std.specs.Prelude.{Some, Ok, Result}
use Rattle.identifiers.specs.Choice.{both, either}
use Rattle.identifiers.specs.Bytes.{written}
use Rattle.identifiers.proofs.LawsBytes.{take-written}
use Rattle.server.specs.Trailer.{sound_record}
use Rattle.server.specs.Requests.{service_of, request_of}
use Rattle.server.specs.Silence.{quiet_code}
use Rattle.server.specs.Forms.{UnknownService, TooShort, UnknownSubFunction, WrongLength, Reads, unknown_service, too_short, unknown_sub_function, wrong_length, clear_group, count_by_mask, list_by_mask, list_all, read_data, tester_present}
use Rattle.server.specs.Server.{negative_of, positive_of, Effect, effect, served_of}
use Rattle.server.specs.Negatives.{NotHeld, TooLong, negative_sent, nothing_sent}
use Rattle.server.specs.declared.trailer.TrailerRecord.{TrailerRecord}
use Rattle.server.specs.declared.requests.Request.{Request}
use Rattle.server.specs.declared.requests.Unread.{Unread}
use Rattle.server.proofs.LawsRequests.{reads}
use Rattle.server.proofs.LawsServer.{lengths-right, negative-bytes, served-silent, served-negative}
use Rattle.server.proofs.LawsSilence.{silent-negative}
use Rattle.server.proofs.LawsNegatives.{due-11, due-12, due-13-first, due-13, due-14, due-31, Why, form-11, form-13-first, form-12, form-13, content-31, content-14, report-14, none, why}
use Rattle.server.proofs.Demand2.{sent-reply}

-- ---- one law for each code
why-11 : {t : TrailerRecord} {q : List ℕ} → Why t q 0x11 → UnknownService q
why-11 (form-11 x) = x

why-12 : {t : TrailerRecord} {q : List ℕ} → Why t q 0x12 → UnknownSubFunction q
why-12 (form-12 x) = x

why-13 : {t : TrailerRecord} {q : List ℕ} → Why t q 0x13 → TooShort q ⊎ WrongLength q
why-13 (form-13-first x) = inl x
why-13 (form-13 x) = inr x

why-31 : {t : TrailerRecord} {q : List ℕ} → Why t q 0x31 → NotHeld t q
why-31 (content-31 x) = x

why-14 : {t : TrailerRecord} {q : List ℕ} → sound_record t ≡ true → Why t q 0x14 → TooLong t q
why-14 h (content-14 x) = x
why-14 h (report-14 n) = absurd (n h)

one_of : {t : TrailerRecord} {q : List ℕ} {c : ℕ} → Why t q c → (c ≡ 0) ⊎ ((c ≡ 0x11) ⊎ ((c ≡ 0x12) ⊎ ((c ≡ 0x13) ⊎ ((c ≡ 0x14) ⊎ (c ≡ 0x31)))))
one_of (form-11 x) = inr (inl refl)
one_of (form-13-first x) = inr (inr (inr (inl refl)))
one_of (form-12 x) = inr (inr (inl refl))
one_of (form-13 x) = inr (inr (inr (inl refl)))
one_of (content-31 x) = inr (inr (inr (inr (inr refl))))
one_of (content-14 x) = inr (inr (inr (inr (inl refl))))
one_of (report-14 x) = inr (inr (inr (inr (inl refl))))
one_of none = inl refl

module _ (t : TrailerRecord) (q : List ℕ) where
  -- "service unknown 11"
  pub negative-11 : (negative_of t (request_of q) q ≡ 0x11) ↔ UnknownService q
  negative-11 = (λ e. why-11 (why t q e), due-11 t q)

  -- "sub-function (low seven bits) unknown 12"
  pub negative-12 : (negative_of t (request_of q) q ≡ 0x12) ↔ UnknownSubFunction q
  negative-12 = (λ e. why-12 (why t q e), due-12 t q)

  -- "19 and 3E shorter than 2, 13"; "wrong length 13"
  pub negative-13 : (negative_of t (request_of q) q ≡ 0x13) ↔ (TooShort q ⊎ WrongLength q)
  negative-13 = (λ e. why-13 (why t q e), ⊎_elim (due-13-first t q) (due-13 t q))

  -- "Other groups 31"; "No asked identifier is held: 31"
  pub negative-31 : (negative_of t (request_of q) q ≡ 0x31) ↔ NotHeld t q
  negative-31 = (λ e. why-31 (why t q e), due-31 t q)

  -- "Over 255 bytes: 14": a report of 19 never is, as 63 codes are 3 + 4 * 63 = 255 bytes
  pub negative-14 : sound_record t ≡ true → (negative_of t (request_of q) q ≡ 0x14) ↔ TooLong t q
  negative-14 h = (λ e. why-14 h (why t q e), due-14 t q)

  -- 0 where the answer is positive, and no other code than these
  pub negative-others : (negative_of t (request_of q) q ≡ 0) ⊎ ((negative_of t (request_of q) q ≡ 0x11) ⊎ ((negative_of t (request_of q) q ≡ 0x12) ⊎ ((negative_of t (request_of q) q ≡ 0x13) ⊎ ((negative_of t (request_of q) q ≡ 0x14) ⊎ (negative_of t (request_of q) q ≡ 0x31)))))
  negative-others = one_of (why t q refl)

-- ---- and the whole effect: of a request of 1 to 255 bytes, by a record that keeps its rules, into a buffer of 255 bytes
not-7F : (t : TrailerRecord) (q : List ℕ) {asked : Result Request Unread} → Reads q asked → negative_of t asked q ≡ 0 → get_or (positive_of t asked q) 0 0 ≢ 0x7F
unfolding negative_of positive_of
not-7F t q (unknown_service x) e z = omega arith
not-7F t q (too_short x) e z = omega arith
not-7F t q (unknown_sub_function x) e z = omega arith
not-7F t q (wrong_length x) e z = omega arith
not-7F t q (clear_group s n) e z = omega arith
not-7F t q (count_by_mask s u n) e z = omega arith
not-7F t q (list_by_mask s u n) e z = omega arith
not-7F t q (list_all s u n) e z = omega arith
not-7F t q (read_data s l o) e z = omega arith
not-7F t q (tester_present s u n) e z = omega arith

module _ (t : TrailerRecord) (sound : sound_record t ≡ true) (q : List ℕ) (some : 1 ≤ length q) (most : length q ≤ 255) (response : List ℕ) (room : length response ≡ 255) where
  -- a code that is not silenced is sent, and what is sent so is the code
  sent : (functional : Bool) (code : ℕ) → code ≢ 0 → both functional (quiet_code code) ≡ false → (negative_of t (request_of q) q ≡ code) → served_of t q functional response ≡ negative_sent t q response code
  unfolding service_of
  sent functional code n h e =
      let m : negative_of t (request_of q) q ≢ 0 = (λ z. n (sym e ∙ z)) in
      served-negative t q functional response sound (lengths-right _ _ some most room) refl (silent-negative (request_of q) functional m ∙ ap (λ (c : ℕ). both functional (quiet_code c)) e ∙ h) m
      ∙ ap (λ (l : List ℕ). effect t (Ok (Some 3)) (written response 0 l)) (negative-bytes _ _ ∙ ap (λ (c : ℕ). 0x7F ∷ get_or q 0 0 ∷ c ∷ []) e)

  meant : (functional : Bool) (code : ℕ) → served_of t q functional response ≡ negative_sent t q response code → negative_of t (request_of q) q ≡ code
  unfolding service_of
  meant functional code e =
      let r = sent-reply t q functional response 3 (ap (λ (o : Effect). o.reply) e) in
      let b : r.bytes ≡ 0x7F ∷ get_or q 0 0 ∷ code ∷ [] = sym r.front ∙ ap (λ (o : Effect). take 3 o.response) e ∙ take-written response 0 (0x7F ∷ get_or q 0 0 ∷ code ∷ []) (omega arith) in
      ⊎_elim (λ p. absurd (not-7F t q (reads q) p.0 (sym (ap (λ (l : List ℕ). get_or l 0 0) p.1.0) ∙ ap (λ (l : List ℕ). get_or l 0 0) b)))
      (λ p. ap (λ (l : List ℕ). get_or l 2 0) (sym p.1 ∙ b)) r.which

  -- "Negative: `7F`, service, code."
  pub negative-answered : (code : ℕ) → code ≢ 0 → (served_of t q false response ≡ negative_sent t q response code) ↔ (negative_of t (request_of q) q ≡ code)
  unfolding both
  negative-answered code n = (meant false code, sent false code n refl)

  -- "A functional request is silent on 11, 12 and 31": not on 13 and 14
  pub negative-functional : (code : ℕ) → (code ≡ 0x13) ⊎ (code ≡ 0x14) → (served_of t q true response ≡ negative_sent t q response code) ↔ (negative_of t (request_of q) q ≡ code)
  unfolding both quiet_code either
  negative-functional code (inl e) = (meant true code, sent true code (λ z. omega arith) (ap quiet_code e))
  negative-functional code (inr e) = (meant true code, sent true code (λ z. omega arith) (ap quiet_code e))

  -- and on these it is
  pub negative-quiet : (code : ℕ) → (code ≡ 0x11) ⊎ ((code ≡ 0x12) ⊎ (code ≡ 0x31)) → negative_of t (request_of q) q ≡ code → served_of t q true response ≡ nothing_sent t response
  unfolding both quiet_code either
  negative-quiet code c e = ⊎_elim (λ p. quiet _ (e ∙ p) refl (λ z. omega arith)) (⊎_elim (λ p. quiet _ (e ∙ p) refl (λ z. omega arith)) (λ p. quiet _ (e ∙ p) refl (λ z. omega arith))) c
    where
      quiet : (c : ℕ) → negative_of t (request_of q) q ≡ c → quiet_code c ≡ true → c ≢ 0 → served_of t q true response ≡ nothing_sent t response
      quiet c e k n = served-silent t q true response sound (lengths-right _ _ some most room) refl (silent-negative (request_of q) true (λ z. n (sym e ∙ z)) ∙ ap quiet_code e ∙ k)

  -- ---- which physical requests are answered which code
  pub answers-11 : (served_of t q false response ≡ negative_sent t q response 0x11) ↔ UnknownService q
  answers-11 = Iff.trans (negative-answered 0x11 (λ z. omega arith)) (negative-11 t q)

  pub answers-12 : (served_of t q false response ≡ negative_sent t q response 0x12) ↔ UnknownSubFunction q
  answers-12 = Iff.trans (negative-answered 0x12 (λ z. omega arith)) (negative-12 t q)

  pub answers-13 : (served_of t q false response ≡ negative_sent t q response 0x13) ↔ (TooShort q ⊎ WrongLength q)
  answers-13 = Iff.trans (negative-answered 0x13 (λ z. omega arith)) (negative-13 t q)

  pub answers-31 : (served_of t q false response ≡ negative_sent t q response 0x31) ↔ NotHeld t q
  answers-31 = Iff.trans (negative-answered 0x31 (λ z. omega arith)) (negative-31 t q)

  pub answers-14 : (served_of t q false response ≡ negative_sent t q response 0x14) ↔ TooLong t q
  answers-14 = Iff.trans (negative-answered 0x14 (λ z. omega arith)) (negative-14 t q sound)

  -- ---- and which functional ones
  pub functional-13 : (served_of t q true response ≡ negative_sent t q response 0x13) ↔ (TooShort q ⊎ WrongLength q)
  functional-13 = Iff.trans (negative-functional 0x13 (inl refl)) (negative-13 t q)

  pub functional-14 : (served_of t q true response ≡ negative_sent t q response 0x14) ↔ TooLong t q
  functional-14 = Iff.trans (negative-functional 0x14 (inr refl)) (negative-14 t q sound)

  pub functional-quiet : UnknownService q ⊎ (UnknownSubFunction q ⊎ NotHeld t q) → served_of t q true response ≡ nothing_sent t response
  functional-quiet (inl x) = negative-quiet 0x11 (inl refl) (due-11 t q x)
  functional-quiet (inr (inl x)) = negative-quiet 0x12 (inr (inl refl)) (due-12 t q x)
  functional-quiet (inr (inr x)) = negative-quiet 0x31 (inr (inr refl)) (due-31 t q x)
