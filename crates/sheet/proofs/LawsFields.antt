-- Laws of one field: the rungs of its refusals, one law each, and where the bytes of a field that passes a rung stand.
use Rattle.std.specs.Prelude.{Ok}
use mathlib.Core.Path.{◌≡◌, refl, sym, ap, ◌∙◌}
use mathlib.Core.Bool.{true, false, not}
use mathlib.Core.List.{List}
use Prim.Native.Nat.{ℕ, ◌+◌, ◌-◌, ◌*◌, ◌≤◌, ◌<◌}
use native.Mathlib.Omega.{arith}
use borrow.Author.Tests.{leb-true, ltb-false, eqb-true, lt-ltb, le-ltb, eq-eqb, ne_eqb, not-false}
use lib.Dec.{ltb}
use lib.ListN.{length, get_or, take, drop, length-drop}
use lib.Seq.{take_all, get_or-drop}
use Rattle.identifiers.specs.Refusals.{refusal}
use Rattle.identifiers.specs.declared.refusal.Refusal.{Refusal}
use Rattle.sheet.specs.declared.sheet_read.RefusedAt.{RefusedAt}
use Rattle.identifiers.proofs.LawsChoice.{pick_true, pick-false, was-passed, was-taken, both_true, left-holds, right-decides, either-false}
use Rattle.sheet.specs.Fields.{refused_at, pair_at, bytes_left, cut_short, size_of, wrong_form, sound_position, sound_response, sound_content, field_read}

-- ---- 22
pub cut-head : (s : List ℕ) (at : ℕ) → bytes_left s at < 3 → true ≡ cut_short s at
unfolding cut_short
cut-head s at h = left-holds _ (lt-ltb _ _ h)

pub cut-content : (s : List ℕ) (at : ℕ) → 3 ≤ bytes_left s at → ltb (bytes_left s at - 3) (pair_at s (at + 1)) ≡ cut_short s at
unfolding cut_short
cut-content s at h = right-decides (le-ltb _ _ h) refl

-- a field that is not cut short stands whole in the input
pub uncut-whole : (s : List ℕ) (at : ℕ) → cut_short s at ≡ false → at + 3 + pair_at s (at + 1) ≤ length s
unfolding cut_short
uncut-whole s at e =
    let h = either-false _ _ e in
    let head : 3 ≤ length s - at = ltb-false _ _ h.0 in
    let content : pair_at s (at + 1) ≤ length s - at - 3 = ltb-false _ _ h.1 in
    omega arith

pub uncut : (s : List ℕ) (at : ℕ) → at + 3 + pair_at s (at + 1) ≤ length s → cut_short s at ≡ false
unfolding cut_short
uncut s at h =
    let head : 3 ≤ length s - at = omega arith in
    let content : pair_at s (at + 1) ≤ length s - at - 3 = omega arith in
    sym (right-decides (le-ltb _ _ head) (sym (le-ltb _ _ content)))

-- ---- 23
pub size-response : (tag : ℕ) → tag ≡ 3 → size_of tag ≡ 6
unfolding size_of
size-response tag e = pick_true _ _ (eq-eqb _ _ e)

pub size-other : (tag : ℕ) → (tag ≡ 3 → ⊥) → size_of tag ≡ 1
unfolding size_of
size-other tag n = pick-false _ _ (ne_eqb _ _ n)

pub right-form : (s : List ℕ) (at tag : ℕ) → wrong_form s at tag ≡ false → (get_or s at 0 ≡ tag) × (pair_at s (at + 1) ≡ size_of tag)
unfolding wrong_form
right-form s at tag e = let h = either-false _ _ e in (eqb-true _ _ (not-false _ h.0), eqb-true _ _ (not-false _ h.1))

pub form-right : (s : List ℕ) (at tag : ℕ) → get_or s at 0 ≡ tag → pair_at s (at + 1) ≡ size_of tag → wrong_form s at tag ≡ false
unfolding wrong_form
form-right s at tag t z = sym (right-decides (ap not (eq-eqb _ _ t)) (sym (ap not (eq-eqb _ _ z))))

-- so the content stands in the input
pub content-stands : (s : List ℕ) (at tag : ℕ) → cut_short s at ≡ false → wrong_form s at tag ≡ false → at + 3 + size_of tag ≤ length s
content-stands s at tag u f = omega (arith, uncut-whole s at u, (right-form s at tag f).1)

-- ---- 24
pub position-range : (p : ℕ) → sound_position p ≡ true → (1 ≤ p) × (p ≤ 5)
unfolding sound_position
position-range p e = let h = both_true _ _ e in (leb-true _ _ h.0, leb-true _ _ h.1)

pub content-position : (s : List ℕ) (at tag : ℕ) → tag ≡ 1 → sound_content s at tag ≡ sound_position (get_or s at 0)
unfolding sound_content
content-position s at tag e = pick_true _ _ (eq-eqb _ _ e)

pub content-response : (s : List ℕ) (at tag : ℕ) → tag ≡ 3 → sound_content s at tag ≡ sound_response s at
unfolding sound_content
content-response s at tag e = let n : tag ≡ 1 → ⊥ = (λ h. omega arith) in pick-false _ _ (ne_eqb _ _ n) ∙ pick_true _ _ (eq-eqb _ _ e)

pub content-mask : (s : List ℕ) (at tag : ℕ) → (tag ≡ 1 → ⊥) → (tag ≡ 3 → ⊥) → sound_content s at tag ≡ true
unfolding sound_content
content-mask s at tag n m = pick-false _ _ (ne_eqb _ _ n) ∙ pick-false _ _ (ne_eqb _ _ m)

-- the content behind the three bytes of a field's head
moved : (s : List ℕ) (at i : ℕ) → get_or (drop 3 (drop at s)) i 0 ≡ get_or s (at + 3 + i) 0
moved s at i = get_or-drop 3 (drop at s) i 0 ∙ get_or-drop at s (3 + i) 0 ∙ ap (λ (k : ℕ). get_or s k 0) (omega arith)

pub content_behind : (s : List ℕ) (at tag : ℕ) → sound_content s (at + 3) tag ≡ sound_content (take (length (drop at s) - 3) (drop 3 (drop at s))) 0 tag
unfolding sound_content sound_response
content_behind s at tag =
    let whole = take_all (length (drop at s) - 3) (drop 3 (drop at s)) (simp length-drop (omega arith)) in
    let first : get_or (drop 3 (drop at s)) 0 0 ≡ get_or s (at + 3) 0 = moved s at 0 ∙ ap (λ (k : ℕ). get_or s k 0) (omega arith) in
    rw (whole, first, moved s at 1, moved s at 2, moved s at 3)

-- ---- the rungs
module _ (s : List ℕ) (at tag : ℕ) where
  pub field-22 : cut_short s at ≡ true → field_read s at tag ≡ refused_at (refusal 22) at
  unfolding field_read
  field-22 c = pick_true _ _ c

  pub field-23 : cut_short s at ≡ false → wrong_form s at tag ≡ true → field_read s at tag ≡ refused_at (refusal 23) at
  unfolding field_read
  field-23 c f = pick-false _ _ c ∙ pick_true _ _ f

  pub field-24 : cut_short s at ≡ false → wrong_form s at tag ≡ false → sound_content s (at + 3) tag ≡ false → field_read s at tag ≡ refused_at (refusal 24) at
  unfolding field_read
  field-24 c f k = pick-false _ _ c ∙ pick-false _ _ f ∙ pick-false _ _ k

  pub field-accepted : cut_short s at ≡ false → wrong_form s at tag ≡ false → sound_content s (at + 3) tag ≡ true → field_read s at tag ≡ Ok tt
  unfolding field_read
  field-accepted c f k = pick-false _ _ c ∙ pick-false _ _ f ∙ pick_true _ _ k

-- ---- what an accepted field has
pub not-accepted : (why : Refusal) (o : ℕ) → refused_at why o ≡ Ok tt → ⊥
not-accepted why o e = cc

pub same-refused : (v w : Refusal) (o p : ℕ) → refused_at v o ≡ refused_at w p → (v ≡ w) × (o ≡ p)
same-refused v w o p e =
    let same : ◌≡◌ {A = RefusedAt} (record { refusal = v; offset = o }) (record { refusal = w; offset = p }) = cc in
    (ap (λ (r : RefusedAt). r.refusal) same, ap (λ (r : RefusedAt). r.offset) same)

pub record SoundField (s : List ℕ) (at tag : ℕ) : Type 0 where
  pub whole : cut_short s at ≡ false
  pub form : wrong_form s at tag ≡ false
  pub content : sound_content s (at + 3) tag ≡ true

pub sound-field : (s : List ℕ) (at tag : ℕ) → field_read s at tag ≡ Ok tt → SoundField s at tag
unfolding field_read
sound-field s at tag e =
    let a = was-passed _ _ _ _ (not-accepted (refusal 22) at) e in
    let b = was-passed _ _ _ _ (not-accepted (refusal 23) at) a.1 in
    let c = was-taken _ _ _ _ (not-accepted (refusal 24) at) b.1 in
    record { whole = a.0; form = b.0; content = c.0 }

-- the three bytes before its content
pub record Head (s : List ℕ) (at tag size : ℕ) : Type 0 where
  pub tagged : get_or s at 0 ≡ tag
  pub high : get_or s (at + 1) 0 ≡ 0
  pub low : get_or s (at + 2) 0 ≡ size

pub sound-head : (s : List ℕ) (at tag size : ℕ) → size_of tag ≡ size → size < 256 → SoundField s at tag → Head s at tag size
sound-head s at tag size z l k =
    let f = right-form s at tag k.form in
    let named : get_or s (at + 1) 0 * 256 + get_or s (at + 1 + 1) 0 ≡ size_of tag = f.1 in
    let place : at + 2 ≡ at + 1 + 1 = omega arith in
    record { tagged = f.0; high = omega arith; low = rw place (omega arith) }

pub head-accepted : (s : List ℕ) (at tag size : ℕ) → size_of tag ≡ size → at + 3 + size ≤ length s → sound_content s (at + 3) tag ≡ true → Head s at tag size → field_read s at tag ≡ Ok tt
head-accepted s at tag size z l k h =
    let place : at + 1 + 1 ≡ at + 2 = omega arith in
    let low : get_or s (at + 1 + 1) 0 ≡ size = rw place h.low in
    let named : pair_at s (at + 1) ≡ size = omega (arith, h.high, low) in
    field-accepted s at tag (uncut s at (omega arith)) (form-right s at tag h.tagged (omega arith)) k
