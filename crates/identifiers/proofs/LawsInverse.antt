-- Reading and writing are inverse on all numbers below 2 ^ 29 and all fields within their widths: reading is onto, writing is one to one.
use mathlib.Core.Path.{◌≡◌, sym, ap, ◌∙◌}
use mathlib.Core.Logic.{◌↔◌}
use Prim.Native.Nat.{ℕ, ◌+◌, ◌*◌, ◌/◌, ◌%◌, ◌^◌, ◌≤◌, ◌<◌}
use native.Mathlib.Nat.{mod-eq_of_lt}
use native.Mathlib.Decide.{dec_lt}
use native.Mathlib.Omega.{arith}
use lib.Arith.{mod-mul}
use lib.Dec.{lit<, lit≤}
use borrow.Author.Tests.{ltb-false, le-ltb, lt-ltb}
use Rattle.std.specs.Prelude.{Result, Ok, Err}
use Rattle.identifiers.specs.Refusals.{refusal}
use Rattle.identifiers.specs.Identifiers.{formula, reserved_bit, fields_of, frame_passing, read_of, written_as}
use Rattle.identifiers.specs.declared.refusal.Refusal.{Refusal}
use Rattle.identifiers.specs.declared.identifier.Identifier.{Identifier}
use Rattle.identifiers.proofs.LawsChoice.{pick_true, pick-false, was-passed, right-decides, left-holds, right-holds, either-false}
use Rattle.identifiers.proofs.LawsIdentifiers.{passing-fields, passing-passes}

-- ---- the formula: every number below 2 ^ 29 is that of its six fields
join : (n p r d f s a x16 x24 x25 x26 : ℕ) → x16 ≡ s + a → x24 ≡ f + x16 → x25 ≡ d + x24 → x26 ≡ r + x25 → n ≡ p + x26 → p + r + d + f + s + a ≡ n
join n p r d f s a x16 x24 x25 x26 e16 e24 e25 e26 e29 = omega arith

pub formula-of-fields : (n : ℕ) → n < 2 ^ 29 → formula (fields_of n) ≡ n
unfolding formula fields_of reserved_bit
formula-of-fields n h =
    join n _ _ _ _ _ _ _ _ _ _ (place 256 (2 ^ 8) (lit< tt) (lit< tt)) (place 256 (2 ^ 16) (lit< tt) (lit< tt)) (place 2 (2 ^ 24) (lit< tt) (lit< tt)) (place 2 (2 ^ 25) (lit< tt) (lit< tt))
    (sym (mod-eq_of_lt h) ∙ place 8 (2 ^ 26) (lit< tt) (lit< tt))
  where
    place : (m c : ℕ) → 0 < m → 0 < c → n % (m * c) ≡ n / c % m * c + n % c
    place m c M C = mod-mul n M C

-- the widths, "3, 1, 1, 8, 8, 8"
pub record Widths (i : Identifier) : Type 0 where
  pub priority : i.priority < 2 ^ 3
  pub reserved : i.reserved < 2 ^ 1
  pub data_page : i.data_page < 2 ^ 1
  pub format : i.format < 2 ^ 8
  pub specific : i.specific < 2 ^ 8
  pub source : i.source < 2 ^ 8

pub fields-widths : (n : ℕ) → Widths (fields_of n)
unfolding fields_of reserved_bit
fields-widths n = record { priority = omega arith; reserved = omega arith; data_page = omega arith; format = omega arith; specific = omega arith; source = omega arith }

-- the fields of a number that the formula gives
module _ (i : Identifier) (w : Widths i) where
  pub formula-range : formula i < 2 ^ 29
  unfolding formula
  formula-range = omega arith

  at-priority : formula i / 2 ^ 26 % 2 ^ 3 ≡ i.priority
  unfolding formula
  at-priority = omega arith

  pub formula-reserved : reserved_bit (formula i) ≡ i.reserved
  unfolding formula reserved_bit
  formula-reserved = omega arith

  at-page : formula i / 2 ^ 24 % 2 ^ 1 ≡ i.data_page
  unfolding formula
  at-page = omega arith

  at-format : formula i / 2 ^ 16 % 2 ^ 8 ≡ i.format
  unfolding formula
  at-format = omega arith

  at-specific : formula i / 2 ^ 8 % 2 ^ 8 ≡ i.specific
  unfolding formula
  at-specific = omega arith

  at_source : formula i % 2 ^ 8 ≡ i.source
  unfolding formula
  at_source = omega arith

  pub formula-fields : fields_of (formula i) ≡ i
  unfolding fields_of
  formula-fields = rw (at-priority, formula-reserved, at-page, at-format, at-specific, at_source)

-- ---- the writer: 16 exactly where P, R or DP is past its width
pub data TooWide (i : Identifier) : Type 0 where
  wide-priority : 7 < i.priority → TooWide i
  wide-reserved : 1 < i.reserved → TooWide i
  wide-page : 1 < i.data_page → TooWide i

pub write-16 : (i : Identifier) → TooWide i → written_as i ≡ Err (refusal 16)
unfolding written_as
write-16 i (wide-priority h) = pick_true _ _ (sym (left-holds _ (lt-ltb _ _ h)))
write-16 i (wide-reserved h) = pick_true _ _ (sym (right-holds _ (sym (left-holds _ (lt-ltb _ _ h)))))
write-16 i (wide-page h) = pick_true _ _ (sym (right-holds _ (sym (right-holds _ (lt-ltb _ _ h)))))

pub write-number : (i : Identifier) → i.priority ≤ 7 → i.reserved ≤ 1 → i.data_page ≤ 1 → written_as i ≡ Ok (formula i)
unfolding written_as
write-number i p r d = pick-false _ _ (sym (right-decides (le-ltb _ _ p) (right-decides (le-ltb _ _ r) (sym (le-ltb _ _ d)))))

not-number : (r : Refusal) (n : ℕ) → Err r ≡ Ok n → ⊥
not-number r n e = cc

pub write-16-exactly : (i : Identifier) → written_as i ≡ Err (refusal 16) ↔ TooWide i
write-16-exactly i = (go (dec_lt 7 i.priority) (dec_lt 1 i.reserved) (dec_lt 1 i.data_page), write-16 i)
  where
    go : Dec (7 < i.priority) → Dec (1 < i.reserved) → Dec (1 < i.data_page) → written_as i ≡ Err (refusal 16) → TooWide i
    go (yes p) r d e = wide-priority p
    go (no p) (yes r) d e = wide-reserved r
    go (no p) (no r) (yes d) e = wide-page d
    go (no p) (no r) (no d) e = absurd (not-number _ _ (sym e ∙ write-number i (omega arith) (omega arith) (omega arith)))

-- ---- no number below 2 ^ 29 is left out, and no fields within their widths
pub reads-each : (n : ℕ) → n < 2 ^ 29 → read_of n ≡ Ok (fields_of n)
unfolding read_of
reads-each n h = passing-fields n 0 h (lit≤ tt)

pub writes-each : (i : Identifier) → Widths i → written_as i ≡ Ok (formula i)
writes-each i w = write-number i (omega (arith, w.priority)) (omega (arith, w.reserved)) (omega (arith, w.data_page))

-- ---- both ways
-- the fields are bytes, as those of every value of the program are
pub record Bytes (i : Identifier) : Type 0 where
  pub format : i.format < 2 ^ 8
  pub specific : i.specific < 2 ^ 8
  pub source : i.source < 2 ^ 8

same_number : (m n : ℕ) → ◌≡◌ {A = Result ℕ Refusal} (Ok m) (Ok n) → m ≡ n
same_number m n e = cc

-- fields that are written: P, R and DP are within their widths, and the number is that of the formula
was-written : (i : Identifier) (n : ℕ) → Bytes i → written_as i ≡ Ok n → Widths i × (formula i ≡ n)
unfolding written_as
was-written i n b e =
    let a = was-passed _ _ _ _ (not-number (refusal 16) n) e in
    let o = either-false _ _ a.0 in
    let o' = either-false _ _ o.1 in
    let p : i.priority ≤ 7 = ltb-false _ _ o.0 in
    let r : i.reserved ≤ 1 = ltb-false _ _ o'.0 in
    let d : i.data_page ≤ 1 = ltb-false _ _ o'.1 in
    (record { priority = omega arith; reserved = omega arith; data_page = omega arith; format = b.format; specific = b.specific; source = b.source }, same_number _ _ a.1)

-- reading what was written gives the fields back, also with up to 8 data bytes
pub written_read : (i : Identifier) (n count : ℕ) → Bytes i → count ≤ 8 → written_as i ≡ Ok n → frame_passing n count ≡ Ok i
written_read i n count b h e =
    let w = was-written i n b e in
    rw (sym w.1) (passing-fields _ count (formula-range i w.0) h ∙ ap Ok (formula-fields i w.0))

-- writing what was read gives the number back
pub read-written : (n count : ℕ) (i : Identifier) → frame_passing n count ≡ Ok i → written_as i ≡ Ok n
read-written n count i e =
    let p = passing-passes n count i e in
    rw (sym p.fields) (writes-each (fields_of n) (fields-widths n) ∙ ap Ok (formula-of-fields n p.range))

-- a number is read as these fields exactly where they, within their widths, are written as it
pub inverse : (n : ℕ) (i : Identifier) → read_of n ≡ Ok i ↔ Widths i × (written_as i ≡ Ok n)
unfolding read_of
inverse n i = (
  λ e. (rw (passing-passes n 0 i e).fields at (fields-widths n), read-written n 0 i e),
  λ (h : Widths i × (written_as i ≡ Ok n)). written_read i n 0 (record { format = h.0.format; specific = h.0.specific; source = h.0.source }) (lit≤ tt) h.1,
)

-- reading is onto: all fields within their widths are those of a number below 2 ^ 29
pub reading-onto : (i : Identifier) → Widths i → (formula i < 2 ^ 29) × (read_of (formula i) ≡ Ok i)
reading-onto i w = (formula-range i w, reads-each (formula i) (formula-range i w) ∙ ap Ok (formula-fields i w))

-- writing is one to one: no two identifiers are written alike
pub writing-one-to-one : (i j : Identifier) → Widths i → Widths j → written_as i ≡ written_as j → i ≡ j
writing-one-to-one i j v w e =
    sym (formula-fields i v) ∙ ap fields_of (same_number _ _ (sym (writes-each i v) ∙ e ∙ writes-each j w)) ∙ formula-fields j w
