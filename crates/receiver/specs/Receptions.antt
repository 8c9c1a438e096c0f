-- The reception of one vehicle, and its part of the buffer (document 01, "Frames and trains").
use Rattle.std.specs.Prelude.{ℕ, ◌+◌, ◌*◌, Bool, ◌==◌, nat_le, nat_lt}
use Rattle.identifiers.specs.Choice.{pick, both}
use Rattle.readings.specs.Positions.{place_of}
use Rattle.readings.specs.declared.position.Position.{Position}
use Rattle.receiver.specs.declared.reception.Reception.{Reception}

-- closed: one value
abbrev pub closed : Reception
closed = record { length = 0; taken = 0; last = 0 }

-- "open with L 7..255, the frames k taken (5 + 6k below L) and the last stamp"
abbrev pub open_with : ℕ → ℕ → ℕ → Reception
open_with L k t = record { length = L; taken = k; last = t }

unfoldable pub sound_reception : Reception → Bool
sound_reception r =
    pick (r.length == 0) (both (r.taken == 0) (r.last == 0)) (both (nat_le 7 r.length) (nat_lt (5 + 6 * r.taken) r.length))

-- "The buffer has 1,536 bytes: position p owns bytes 256p to 256p+254"
abbrev pub buffer_length : ℕ
buffer_length = 1536

unfoldable pub region_at : Position → ℕ
region_at p = 256 * place_of p
