-- The rules of a trailer record (document 01, "Server").
use Rattle.std.specs.Prelude.{Bool, List, ℕ, ◌+◌, ◌-◌, eqb, ltb, leb, get_or, Result, Ok, Err}
use Rattle.std.specs.Int.Bits.{bit_and}
use Rattle.identifiers.specs.Choice.{unless, both}
use Rattle.identifiers.specs.Below.{all_below}
use Rattle.identifiers.specs.Refusals.{refusal}
use Rattle.identifiers.specs.declared.refusal.Refusal.{Refusal}
use Rattle.server.specs.Mask.{sound_mask}
use Rattle.server.specs.declared.trailer.TrailerRecord.{TrailerRecord}

-- "strictly ascending", of the first n
unfoldable pub ascending : List ℕ → ℕ → Bool
ascending numbers n = all_below (λ i. ltb (get_or numbers i 0) (get_or numbers (i + 1) 0)) (n - 1)

-- "fault codes, 24 bits, .. none `FFFFFF`"
unfoldable pub codes_below : TrailerRecord → Bool
codes_below t = all_below (λ i. ltb (get_or t.codes i 0) 0xFFFFFF) t.count

-- "A status has no bit outside the mask."
unfoldable pub status_within : ℕ → ℕ → Bool
status_within availability status = eqb (bit_and status availability) status

unfoldable pub statuses_within : TrailerRecord → Bool
statuses_within t = all_below (λ i. status_within t.availability (get_or t.statuses i 0)) t.count

-- data identifiers "of 1..32 bytes"
unfoldable pub length_within : ℕ → Bool
length_within n = both (leb 1 n) (leb n 32)

unfoldable pub lengths_within : TrailerRecord → Bool
lengths_within t = all_below (λ k. length_within (get_or t.lengths k 0)) t.held

-- "It holds up to 63 fault codes, .. with a status byte each; an availability mask; up to 16 data identifiers": a record that keeps its rules
unfoldable pub sound_record : TrailerRecord → Bool
sound_record t =
    both (both (leb t.count 63) (leb t.held 16))
    (both (both (both (both (both (sound_mask t.availability) (codes_below t)) (ascending t.codes t.count)) (statuses_within t)) (ascending t.identifiers t.held)) (lengths_within t))

-- 1 "lent state breaks its rules"
unfoldable pub checked_as : TrailerRecord → Result (Unit {0}) Refusal
checked_as t = unless (sound_record t) (Err (refusal 1)) (Ok tt)

-- a record with other statuses
abbrev pub with_statuses : TrailerRecord → List ℕ → TrailerRecord
with_statuses t statuses =
    record {
      codes = t.codes;
      statuses = statuses;
      count = t.count;
      availability = t.availability;
      identifiers = t.identifiers;
      lengths = t.lengths;
      bytes = t.bytes;
      held = t.held;
    }
