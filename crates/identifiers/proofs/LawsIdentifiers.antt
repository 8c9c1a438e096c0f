-- What is read of a frame's number: one law a rung of the checks, the fields on the wire, and what PS is.
use mathlib.Core.Path.{◌≡◌, refl, sym, ap, ◌∙◌}
use mathlib.Core.Bool.{Bool, true, false}
use Prim.Native.Nat.{ℕ, ◌/◌, ◌%◌, ◌^◌, ◌≤◌, ◌<◌}
use native.Mathlib.Omega.{arith}
use lib.Dec.{leb, ltb, eqb}
use borrow.Author.Tests.{leb-true, leb-false, eqb-true, eqb-false, ltb-true, ltb-false, lt-leb, le-leb, le-ltb, lt-ltb, eq-eqb, ne_eqb}
use Rattle.std.specs.Prelude.{Result, Ok, Err}
use Rattle.identifiers.specs.Choice.{pick}
use Rattle.identifiers.specs.Refusals.{refusal}
use Rattle.identifiers.specs.Identifiers.{reserved_bit, fields_of, frame_passing, read_passing, frame_read, read_of, target_of}
use Rattle.identifiers.specs.declared.refusal.Refusal.{Refusal}
use Rattle.identifiers.specs.declared.identifier.Identifier.{Identifier}
use Rattle.identifiers.specs.declared.identifier.Target.TheVariants.{Destination, GroupExtension}
use Rattle.identifiers.proofs.LawsChoice.{pick_true, pick-false, by-test, was-passed}

-- ---- the checks of a frame, one law a rung: 2 and 3
pub passing-2 : (n count : ℕ) → 2 ^ 29 ≤ n → frame_passing n count ≡ Err (refusal 2)
unfolding frame_passing
passing-2 n count h = pick_true _ _ (le-leb _ _ h)

pub passing-3 : (n count : ℕ) → n < 2 ^ 29 → 8 < count → frame_passing n count ≡ Err (refusal 3)
unfolding frame_passing
passing-3 n count h l = pick-false _ _ (lt-leb _ _ h) ∙ pick_true _ _ (lt-ltb _ _ l)

pub passing-fields : (n count : ℕ) → n < 2 ^ 29 → count ≤ 8 → frame_passing n count ≡ Ok (fields_of n)
unfolding frame_passing
passing-fields n count h l = pick-false _ _ (lt-leb _ _ h) ∙ pick-false _ _ (le-ltb _ _ l)

-- then 4: a refusal stays, fields with R set are refused, and others stay
pub read-refused : (n count : ℕ) (r : Refusal) → frame_passing n count ≡ Err r → frame_read n count ≡ Err r
unfolding frame_read read_passing
read-refused n count r e = ap read_passing e

pub read-4 : (n count : ℕ) (i : Identifier) → frame_passing n count ≡ Ok i → i.reserved ≡ 1 → frame_read n count ≡ Err (refusal 4)
unfolding frame_read read_passing
read-4 n count i e r = ap read_passing e ∙ pick_true _ _ (eq-eqb _ _ r)

pub read-fields : (n count : ℕ) (i : Identifier) → frame_passing n count ≡ Ok i → (i.reserved ≡ 1 → ⊥) → frame_read n count ≡ Ok i
unfolding frame_read read_passing
read-fields n count i e r = ap read_passing e ∙ pick-false _ _ (ne_eqb _ _ r)

-- 2, 3 and 4
pub frame-2 : (n count : ℕ) → 2 ^ 29 ≤ n → frame_read n count ≡ Err (refusal 2)
frame-2 n count h = read-refused n count _ (passing-2 n count h)

pub frame-3 : (n count : ℕ) → n < 2 ^ 29 → 8 < count → frame_read n count ≡ Err (refusal 3)
frame-3 n count h l = read-refused n count _ (passing-3 n count h l)

pub frame-4 : (n count : ℕ) → n < 2 ^ 29 → count ≤ 8 → reserved_bit n ≡ 1 → frame_read n count ≡ Err (refusal 4)
unfolding fields_of
frame-4 n count h l r = read-4 n count _ (passing-fields n count h l) r

pub frame-fields : (n count : ℕ) → n < 2 ^ 29 → count ≤ 8 → (reserved_bit n ≡ 1 → ⊥) → frame_read n count ≡ Ok (fields_of n)
unfolding fields_of
frame-fields n count h l r = read-fields n count _ (passing-fields n count h l) r

-- all of them in one ladder
past-refusal : (t : Bool) (r : Refusal) (next : Result Identifier Refusal) → read_passing (pick t (Err r) next) ≡ pick t (Err r) (read_passing next)
unfolding read_passing pick
past-refusal true r next = refl
past-refusal false r next = refl

frame-ladder : (n count : ℕ) → frame_read n count
    ≡ pick (leb (2 ^ 29) n) (Err (refusal 2)) (pick (ltb 8 count) (Err (refusal 3)) (pick (eqb (reserved_bit n) 1) (Err (refusal 4)) (Ok (fields_of n))))
unfolding frame_read frame_passing read_passing fields_of
frame-ladder n count = past-refusal _ _ _ ∙ ap (pick (leb (2 ^ 29) n) (Err (refusal 2))) (past-refusal _ _ _)

-- a frame's number is read in one of these four ways
pub data Reads (n count : ℕ) : Result Identifier Refusal → Type 0 where
  reads-2 : 2 ^ 29 ≤ n → Reads n count (Err (refusal 2))
  reads-3 : n < 2 ^ 29 → 8 < count → Reads n count (Err (refusal 3))
  reads-4 : n < 2 ^ 29 → count ≤ 8 → reserved_bit n ≡ 1 → Reads n count (Err (refusal 4))
  reads-fields : n < 2 ^ 29 → count ≤ 8 → (reserved_bit n ≡ 1 → ⊥) → Reads n count (Ok (fields_of n))

pub frame-reads : (n count : ℕ) → Reads n count (frame_read n count)
frame-reads n count =
    rw (frame-ladder n count) (by-test {P = Reads n count} _ (λ a. record { holds = reads-2 (leb-true _ _ a) })
    (λ a. by-test _ (λ b. record { holds = reads-3 (leb-false _ _ a) (ltb-true _ _ b) })
    (λ b. by-test _ (λ c. record { holds = reads-4 (leb-false _ _ a) (ltb-false _ _ b) (eqb-true _ _ c) })
    (λ c. record { holds = reads-fields (leb-false _ _ a) (ltb-false _ _ b) (eqb-false _ _ c) })))).holds

-- 2 and 3 decide alone, unless they hold and R is set
pub frame-read-passing : (n count : ℕ) → (n < 2 ^ 29 → count ≤ 8 → reserved_bit n ≡ 1 → ⊥) → frame_read n count ≡ frame_passing n count
unfolding frame_read frame_passing read_passing fields_of
frame-read-passing n count h =
    (by-test {P = λ r. read_passing r ≡ r} _ (λ a. record { holds = refl })
    (λ a. by-test _ (λ b. record { holds = refl }) (λ b. record { holds = pick-false _ _ (ne_eqb _ _ (h (leb-false _ _ a) (ltb-false _ _ b))) }))).holds

-- what a frame has that passes, and what one has that is read
pub record Passes (n count : ℕ) (i : Identifier) : Type 0 where
  pub range : n < 2 ^ 29
  pub data_bytes : count ≤ 8
  pub fields : fields_of n ≡ i

not-fields : (r : Refusal) (i : Identifier) → Err r ≡ Ok i → ⊥
not-fields r i e = let z : ◌≡◌ {A = ℕ} 0 1 = cc in omega arith

pub passing-passes : (n count : ℕ) (i : Identifier) → frame_passing n count ≡ Ok i → Passes n count i
unfolding frame_passing
passing-passes n count i e =
    let a = was-passed _ _ _ _ (not-fields (refusal 2) i) e in
    let b = was-passed _ _ _ _ (not-fields (refusal 3) i) a.1 in
    let same : Ok (fields_of n) ≡ Ok i = b.1 in
    record { range = leb-false _ _ a.0; data_bytes = ltb-false _ _ b.0; fields = cc }

no-bit : (n : ℕ) → ((fields_of n).reserved ≡ 1 → ⊥) → (fields_of n).reserved ≡ 0
unfolding fields_of reserved_bit
no-bit n h = omega arith

read-passed : (r : Result Identifier Refusal) (i : Identifier) → read_passing r ≡ Ok i → (r ≡ Ok i) × (i.reserved ≡ 1 → ⊥)
unfolding read_passing
read-passed (Ok j) i e =
    let a = was-passed _ _ _ _ (not-fields (refusal 4) i) e in
    let same : Ok j ≡ Ok i = a.1 in
    let equal : j ≡ i = cc in
    (same, λ (h : i.reserved ≡ 1). eqb-false j.reserved 1 a.0 (ap (λ (k : Identifier). k.reserved) equal ∙ h))
read-passed (Err why) i e = absurd (not-fields why i e)

pub frame-passes : (n count : ℕ) (i : Identifier) → frame_read n count ≡ Ok i → Passes n count i × (i.reserved ≡ 0)
unfolding frame_read
frame-passes n count i e =
    let r = read-passed (frame_passing n count) i e in
    let p = passing-passes n count i r.0 in
    (p, rw p.fields at (no-bit n (rw (sym p.fields) at r.1)))

-- the reader alone: 2, and no more
pub read-ladder : (n : ℕ) → read_of n ≡ pick (leb (2 ^ 29) n) (Err (refusal 2)) (Ok (fields_of n))
unfolding read_of frame_passing pick
read-ladder n = refl

-- ---- the fields on the wire
pub fields-are : (n : ℕ) → fields_of n ≡ record { priority = n / 2 ^ 26 % 2 ^ 3; reserved = n / 2 ^ 25 % 2 ^ 1; data_page = n / 2 ^ 24 % 2 ^ 1; format = n / 2 ^ 16 % 2 ^ 8; specific = n / 2 ^ 8 % 2 ^ 8; source = n % 2 ^ 8 }
unfolding fields_of reserved_bit
fields-are n = refl

pub reserved-is : (n : ℕ) → (fields_of n).reserved ≡ reserved_bit n
unfolding fields_of
reserved-is n = refl

-- SA is the number's last eight bits
pub source_is : (n : ℕ) → (fields_of n).source ≡ n % 2 ^ 8
source_is n = ap (λ (i : Identifier). i.source) (fields-are n)

-- ---- "PF below 240: PS is a destination. Otherwise a group extension."
pub target-destination : (i : Identifier) → i.format < 240 → target_of i ≡ Destination i.specific
unfolding target_of
target-destination i h = pick_true _ _ (lt-ltb _ _ h)

pub target-group : (i : Identifier) → 240 ≤ i.format → target_of i ≡ GroupExtension i.specific
unfolding target_of
target-group i h = pick-false _ _ (le-ltb _ _ h)

-- PF and PS alone decide
pub target-same : (i j : Identifier) → i.format ≡ j.format → i.specific ≡ j.specific → target_of i ≡ target_of j
unfolding target_of
target-same i j f s = rw (f, s)
