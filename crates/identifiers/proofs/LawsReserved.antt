-- Document 02, 2026-07: a number with R set is read as the same number with R 0 is, but for R; with R 0 reader and writer are as before.
use mathlib.Core.Path.{◌≡◌, sym, ap, ◌∙◌}
use Prim.Native.Nat.{ℕ, ◌+◌, ◌-◌, ◌*◌, ◌^◌, ◌≤◌, ◌<◌}
use native.Mathlib.Decide.{dec_lt}
use native.Mathlib.Omega.{arith}
use lib.Dec.{ltb, lit<}
use Rattle.std.specs.Prelude.{Result, Ok, Err}
use Rattle.identifiers.specs.Choice.{pick, either}
use Rattle.identifiers.specs.Refusals.{refusal}
use Rattle.identifiers.specs.Identifiers.{formula, reserved_bit, fields_of, frame_passing, frame_read, read_of, written_as}
use Rattle.identifiers.specs.declared.identifier.Identifier.{Identifier}
use Rattle.identifiers.proofs.LawsIdentifiers.{passing-2, passing-3, passing-fields, frame-read-passing, reserved-is}
use Rattle.identifiers.proofs.LawsInverse.{Widths, fields-widths, formula-of-fields, formula-fields}
use Rattle.identifiers.specs.declared.refusal.Refusal.{Refusal}

-- ---- R set: the same number with R 0 is 2 ^ 25 less, and is read with the same refusal, or the same fields but for R
abbrev pub with_reserved : ℕ → Identifier → Identifier
with_reserved R i = record { priority = i.priority; reserved = R; data_page = i.data_page; format = i.format; specific = i.specific; source = i.source }

abbrev pub read_set : Result Identifier Refusal → Result Identifier Refusal
read_set (Ok i) = Ok (with_reserved 1 i)
read_set (Err why) = Err why

module _ (n : ℕ) (set : reserved_bit n ≡ 1) where
  same-range : 2 ^ 29 ≤ n → 2 ^ 29 ≤ n - 2 ^ 25
  unfolding reserved_bit
  same-range h = omega arith

  is_set : (fields_of n).reserved ≡ 1
  is_set = reserved-is n ∙ set

  cleared-fields : n < 2 ^ 29 → fields_of (n - 2 ^ 25) ≡ with_reserved 0 (fields_of n)
  unfolding formula
  cleared-fields h =
      let w = fields-widths n in
      let within : Widths (with_reserved 0 (fields_of n)) = record { priority = w.priority; reserved = lit< tt; data_page = w.data_page; format = w.format; specific = w.specific; source = w.source } in
      let e : formula (with_reserved 0 (fields_of n)) ≡ n - 2 ^ 25 = omega (arith, formula-of-fields n h, is_set) in
      rw (sym e) (formula-fields (with_reserved 0 (fields_of n)) within)

  set-fields : n < 2 ^ 29 → fields_of n ≡ with_reserved 1 (fields_of (n - 2 ^ 25))
  set-fields h = rw (cleared-fields h, sym is_set)

  pub set-passing : (count : ℕ) → frame_passing n count ≡ read_set (frame_passing (n - 2 ^ 25) count)
  set-passing count = go (dec_lt n (2 ^ 29)) (dec_lt 8 count)
    where
      go : Dec (n < 2 ^ 29) → Dec (8 < count) → frame_passing n count ≡ read_set (frame_passing (n - 2 ^ 25) count)
      go (no h) l = passing-2 n count (omega arith) ∙ sym (ap read_set (passing-2 _ count (same-range (omega arith))))
      go (yes h) (yes l) = passing-3 n count h l ∙ sym (ap read_set (passing-3 _ count (omega arith) l))
      go (yes h) (no l) = passing-fields n count h (omega arith) ∙ ap Ok (set-fields h) ∙ sym (ap read_set (passing-fields _ count (omega arith) (omega arith)))

-- ---- R 0: as before
-- the reader refused by 4 a number below 2 ^ 29 with R set, as the receiver's still does
pub read-unchanged : (n : ℕ) → (n < 2 ^ 29 → reserved_bit n ≡ 1 → ⊥) → read_of n ≡ frame_read n 0
unfolding read_of
read-unchanged n h = sym (frame-read-passing n 0 (λ (r : n < 2 ^ 29) l. h r))

-- "Writers set R to 0": the writer before, which had no R to write
pub written_before : Identifier → Result ℕ Refusal
written_before i =
    pick (either (ltb 7 i.priority) (ltb 1 i.data_page)) (Err (refusal 16))
    (Ok (i.priority * 2 ^ 26 + 0 * 2 ^ 25 + i.data_page * 2 ^ 24 + i.format * 2 ^ 16 + i.specific * 2 ^ 8 + i.source))

pub write-unchanged : (i : Identifier) → i.reserved ≡ 0 → written_as i ≡ written_before i
unfolding written_as formula either written_before
write-unchanged i r = rw r
