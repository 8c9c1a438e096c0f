-- Laws of the server: how long a positive answer is, and one law for each rung of an effect.
use mathlib.Core.Path.{◌≡◌, refl, sym, ap, ◌∙◌}
use mathlib.Core.Bool.{Bool, true, false, false≢true}
use mathlib.Core.List.{List, [], ◌∷◌}
use Prim.Native.Nat.{ℕ, ◌+◌, ◌≤◌, ◌<◌}
use native.Mathlib.Omega.{arith}
use borrow.Author.Tests.{eq-eqb, ne_eqb, eqb-true, eqb-false, ltb-false, le-ltb, not-false}
use lib.Dec.{eqb}
use lib.ListN.{length}
use Rattle.std.specs.Prelude.{Option, Some, None, Result, Ok, Err}
use Rattle.identifiers.specs.Choice.{pick, both, either}
use Rattle.identifiers.specs.Bytes.{written}
use Rattle.identifiers.specs.Refusals.{refusal}
use Rattle.identifiers.proofs.LawsChoice.{pick_true, pick-false, was-passed, either-false}
use Rattle.server.specs.Trailer.{sound_record}
use Rattle.server.specs.Faults.{two_bytes, report_of}
use Rattle.server.specs.DataIdentifiers.{answers_of}
use Rattle.server.specs.Requests.{service_of, request_of}
use Rattle.server.specs.Silence.{silenced, quiet_code, silent_on}
use Rattle.server.specs.Server.{Effect, content_of_19, content_of_22, negative_of, negative_bytes, positive_of, changed_by, wrong_lengths, effect, answered, served_of}
use Rattle.server.specs.declared.trailer.TrailerRecord.{TrailerRecord}
use Rattle.server.specs.declared.requests.Request.{Request}
use Rattle.server.specs.declared.requests.Unread.{Unread}
use Rattle.server.proofs.LawsSilence.{silent-positive, silent-negative}
use Rattle.server.proofs.LawsFaults.{length-report, count-listed-le}

-- ---- lengths
some : {n : ℕ} → 0 < n → n ≡ 0 → ⊥
some l e = omega arith

module _ (t : TrailerRecord) where
  -- a report of at most 63 codes never passes 255 bytes
  pub content-fits : (all : Bool) (mask : ℕ) → t.count ≤ 63 → content_of_19 t all mask ≡ 0
  unfolding content_of_19
  content-fits all mask l = pick-false _ _ (le-ltb 255 (3 + length (report_of t all mask)) (omega (arith, length-report t all mask, count-listed-le t all mask)))

  fits-19 : (all : Bool) (mask : ℕ) → content_of_19 t all mask ≡ 0 → 3 + length (report_of t all mask) ≤ 255
  unfolding content_of_19
  fits-19 all mask e = ltb-false _ _ (was-passed _ _ _ _ (some (omega arith)) e).0

  pub fits-22 : (request : List ℕ) → content_of_22 t request ≡ 0 → 1 + length (answers_of t request) ≤ 255
  unfolding content_of_22
  fits-22 request e = ltb-false _ _ (was-passed _ _ _ _ (some (omega arith)) (was-passed _ _ _ _ (some (omega arith)) e).1).0

  -- a positive answer has 1 to 255 bytes
  pub positive-length : (asked : Result Request Unread) (request : List ℕ) → negative_of t asked request ≡ 0 → (1 ≤ length (positive_of t asked request)) × (length (positive_of t asked request) ≤ 255)
  unfolding negative_of positive_of two_bytes
  positive-length (Err Unread.UnknownService) request e = absurd (omega arith)
  positive-length (Err Unread.TooShort) request e = absurd (omega arith)
  positive-length (Err Unread.UnknownSubFunction) request e = absurd (omega arith)
  positive-length (Err Unread.WrongLength) request e = absurd (omega arith)
  positive-length (Ok (Request.ClearGroup group)) request e = (omega arith, omega arith)
  positive-length (Ok (Request.CountByMask silent mask)) request e = (omega arith, omega arith)
  positive-length (Ok (Request.ListByMask silent mask)) request e = (omega arith, omega (arith, fits-19 false mask e))
  positive-length (Ok (Request.ListAll silent)) request e = (omega arith, omega (arith, fits-19 true 0 e))
  positive-length (Ok Request.ReadData) request e = (omega arith, omega (arith, fits-22 request e))
  positive-length (Ok (Request.TesterPresent silent)) request e = (omega arith, omega arith)

pub negative-bytes : (service code : ℕ) → negative_bytes service code ≡ 0x7F ∷ service ∷ code ∷ []
unfolding negative_bytes
negative-bytes service code = refl

pub right-lengths : (n m : ℕ) → wrong_lengths n m ≡ false → (1 ≤ n) × ((n ≤ 255) × (m ≡ 255))
unfolding wrong_lengths
right-lengths n m e =
    let a = either-false _ _ e in
    let b = either-false _ _ a.0 in
    let z : n ≡ 0 → ⊥ = eqb-false _ _ b.0 in
    (omega (arith, z), (ltb-false _ _ b.1, eqb-true _ _ (not-false _ a.1)))

pub lengths-right : (n m : ℕ) → 1 ≤ n → n ≤ 255 → m ≡ 255 → wrong_lengths n m ≡ false
unfolding wrong_lengths either
lengths-right n m a b c = rw (ne_eqb n 0 (λ z. omega arith), le-ltb 255 n b, eq-eqb m 255 c)

-- ---- one law for each rung of a request that is answered
module _ (t : TrailerRecord) (asked : Result Request Unread) (request : List ℕ) (functional : Bool) (response : List ℕ) where
  pub answered-silent : silent_on asked functional (negative_of t asked request) ≡ true → answered t asked request functional response ≡ effect t (Ok None) response
  unfolding answered
  answered-silent c = pick_true _ _ c

  pub answered-negative : silent_on asked functional (negative_of t asked request) ≡ false → (negative_of t asked request ≡ 0 → ⊥)
      → answered t asked request functional response ≡ effect t (Ok (Some 3)) (written response 0 (negative_bytes (service_of request) (negative_of t asked request)))
  unfolding answered
  answered-negative c d = pick-false _ _ c ∙ pick-false _ _ (ne_eqb _ _ d)

  pub answered-positive : silent_on asked functional (negative_of t asked request) ≡ false → negative_of t asked request ≡ 0
      → answered t asked request functional response ≡ effect (changed_by t asked) (Ok (Some (length (positive_of t asked request)))) (written response 0 (positive_of t asked request))
  unfolding answered
  answered-positive c d = pick-false _ _ c ∙ pick_true _ _ (eq-eqb _ _ d)

-- ---- one law for each rung of a request's effect
module _ (t : TrailerRecord) (request : List ℕ) (functional : Bool) (response : List ℕ) where
  pub served-1 : sound_record t ≡ false → served_of t request functional response ≡ effect t (Err (refusal 1)) response
  unfolding served_of
  served-1 a = pick-false _ _ a

  pub served-17 : sound_record t ≡ true → wrong_lengths (length request) (length response) ≡ true → served_of t request functional response ≡ effect t (Err (refusal 17)) response
  unfolding served_of
  served-17 a b = pick_true _ _ a ∙ pick_true _ _ b

  module _ (a : sound_record t ≡ true) (b : wrong_lengths (length request) (length response) ≡ false) {asked : Result Request Unread} (read : request_of request ≡ asked) where
    pub served-read : served_of t request functional response ≡ answered t asked request functional response
    unfolding served_of
    served-read = pick_true _ _ a ∙ pick-false _ _ b ∙ ap (λ (r : Result Request Unread). answered t r request functional response) read

    pub served-silent : silent_on asked functional (negative_of t asked request) ≡ true → served_of t request functional response ≡ effect t (Ok None) response
    served-silent c = served-read ∙ answered-silent t asked request functional response c

    pub served-negative : silent_on asked functional (negative_of t asked request) ≡ false → (negative_of t asked request ≡ 0 → ⊥)
        → served_of t request functional response ≡ effect t (Ok (Some 3)) (written response 0 (negative_bytes (service_of request) (negative_of t asked request)))
    served-negative c d = served-read ∙ answered-negative t asked request functional response c d

    pub served-positive : silent_on asked functional (negative_of t asked request) ≡ false → negative_of t asked request ≡ 0
        → served_of t request functional response ≡ effect (changed_by t asked) (Ok (Some (length (positive_of t asked request)))) (written response 0 (positive_of t asked request))
    served-positive c d = served-read ∙ answered-positive t asked request functional response c d

-- ---- what was sent, or nothing where it is silent, is what the effect says
-- the record, the reply and the response buffer are those of an effect
pub record Leaves (o : Effect) (t : TrailerRecord) (sent : Option ℕ) (bytes : List ℕ) : Type 0 where
  pub after : t ≡ o.after
  pub reply : Ok sent ≡ o.reply
  pub response : bytes ≡ o.response

leave : {o : Effect} {a t : TrailerRecord} {r s : Option ℕ} {l m : List ℕ} → o ≡ effect a (Ok r) l → t ≡ a → s ≡ r → m ≡ l → Leaves o t s m
leave e p q h = rw e (record { after = p; reply = ap Ok q; response = h })

module _ (t : TrailerRecord) (request : List ℕ) (functional : Bool) (response : List ℕ) (a : sound_record t ≡ true) (b : wrong_lengths (length request) (length response) ≡ false) where
  pub left-negatively : {code : ℕ} → code ≡ negative_of t (request_of request) request → (code ≡ 0 → ⊥)
      → Leaves (served_of t request functional response) t (pick (both functional (quiet_code code)) None (Some 3))
      (pick (both functional (quiet_code code)) response (written response 0 (negative_bytes (service_of request) code)))
  unfolding pick
  left-negatively {code} e n = by (both functional (quiet_code code)) refl
    where
      due : negative_of t (request_of request) request ≡ 0 → ⊥
      due z = n (e ∙ z)

      same : (r : Bool) → both functional (quiet_code code) ≡ r → silent_on (request_of request) functional (negative_of t (request_of request) request) ≡ r
      same r q = silent-negative _ functional due ∙ sym (ap (λ (c : ℕ). both functional (quiet_code c)) e) ∙ q

      by : (r : Bool) → both functional (quiet_code code) ≡ r → Leaves (served_of t request functional response) t (pick r None (Some 3)) (pick r response (written response 0 (negative_bytes (service_of request) code)))
      by true q = leave (served-silent t request functional response a b refl (same true q)) refl refl refl
      by false q = leave (served-negative t request functional response a b refl (same false q) due) refl refl (ap (λ (c : ℕ). written response 0 (negative_bytes (service_of request) c)) e)

  -- a clear is not silenced
  stays : (asked : Request) → silenced (Ok asked) ≡ true → changed_by t (Ok asked) ≡ t
  unfolding silenced changed_by
  stays (Request.ClearGroup group) s = absurd (false≢true s)
  stays (Request.CountByMask silent mask) s = refl
  stays (Request.ListByMask silent mask) s = refl
  stays (Request.ListAll silent) s = refl
  stays Request.ReadData s = refl
  stays (Request.TesterPresent silent) s = refl

  pub left-positively : {asked : Request} → request_of request ≡ Ok asked → negative_of t (Ok asked) request ≡ 0
      → Leaves (served_of t request functional response) (changed_by t (Ok asked)) (pick (silenced (Ok asked)) None (Some (length (positive_of t (Ok asked) request))))
      (pick (silenced (Ok asked)) response (written response 0 (positive_of t (Ok asked) request)))
  unfolding pick
  left-positively {asked} read none = by (silenced (Ok asked)) refl
    where
      same : (r : Bool) → silenced (Ok asked) ≡ r → silent_on (Ok asked) functional (negative_of t (Ok asked) request) ≡ r
      same r q = silent-positive _ functional none ∙ q

      by : (r : Bool) → silenced (Ok asked) ≡ r
          → Leaves (served_of t request functional response) (changed_by t (Ok asked)) (pick r None (Some (length (positive_of t (Ok asked) request)))) (pick r response (written response 0 (positive_of t (Ok asked) request)))
      by true q = leave (served-silent t request functional response a b read (same true q)) (stays asked q) refl refl
      by false q = leave (served-positive t request functional response a b read (same false q) none) refl refl refl

-- ---- the five ways in which a request ends, and that there are no others
pub data Ends (t : TrailerRecord) (request : List ℕ) (functional : Bool) (response : List ℕ) : Type 0 where
  broken : sound_record t ≡ false → Ends t request functional response
  wrong : sound_record t ≡ true → wrong_lengths (length request) (length response) ≡ true → Ends t request functional response
  silent : sound_record t ≡ true → wrong_lengths (length request) (length response) ≡ false → silent_on (request_of request) functional (negative_of t (request_of request) request) ≡ true → Ends t request functional response
  negative : sound_record t ≡ true → wrong_lengths (length request) (length response) ≡ false → silent_on (request_of request) functional (negative_of t (request_of request) request) ≡ false → (negative_of t (request_of request) request ≡ 0 → ⊥) → Ends t request functional response
  positive : sound_record t ≡ true → wrong_lengths (length request) (length response) ≡ false → silent_on (request_of request) functional (negative_of t (request_of request) request) ≡ false → negative_of t (request_of request) request ≡ 0 → Ends t request functional response

pub ends : (t : TrailerRecord) (request : List ℕ) (functional : Bool) (response : List ℕ) → Ends t request functional response
ends t request functional response = by (sound_record t) (wrong_lengths (length request) (length response)) (silent_on asked functional code) (eqb code 0) refl refl refl refl
  where
    asked : Result Request Unread
    asked = request_of request

    code : ℕ
    code = negative_of t asked request

    by : (a b c d : Bool) → sound_record t ≡ a → wrong_lengths (length request) (length response) ≡ b → silent_on asked functional code ≡ c → eqb code 0 ≡ d → Ends t request functional response
    by false b c d p q r s = broken p
    by true true c d p q r s = wrong p q
    by true false true d p q r s = silent p q r
    by true false false false p q r s = negative p q r (eqb-false _ _ s)
    by true false false true p q r s = positive p q r (eqb-true _ _ s)
