-- What a frame of each kind is on the wire, by its identifier and its bytes (document 01, "Frames and trains").
use Rattle.std.specs.Prelude.{◌≡◌, ℕ, ◌+◌, ◌*◌, ◌/◌, ◌%◌, ◌^◌, ◌<◌, ◌≤◌, Bool, ◌≢◌, List, length, slice_index, slice_index_or}
use Rattle.identifiers.specs.Choice.{pick}
use Rattle.identifiers.specs.Identifiers.{reserved_bit, fields_of}
use Rattle.readings.specs.Positions.{place_of, address_of, global}
use Rattle.readings.specs.declared.position.Position.{Position}

-- "DP 0, PF 206 physical with PS the own address, PF 205 functional with PS FF. SA is another vehicle. The first data byte is the unit", and checks 2, 3 and 4
pub record Addressed (own : Position) (unit n : ℕ) (bytes : List ℕ) (p : Position) (functional : Bool) : Type 0 where
  pub range : n < 2 ^ 29
  pub count : length bytes ≤ 8
  pub reserved : reserved_bit n ≢ 1
  pub page : (fields_of n).data_page ≡ 0
  pub format : (fields_of n).format ≡ pick functional 205 206
  pub source : (fields_of n).source ≡ address_of p
  pub other : place_of p ≢ place_of own
  pub specific : (fields_of n).specific ≡ pick functional global (address_of own)
  pub own_unit : (1 ≤ length bytes) × (slice_index bytes 0 ≡ unit)

-- "0 single: low half L 1..6, at least 2 + L data bytes"
pub record IsSingle (bytes : List ℕ) (L : ℕ) : Type 0 where
  pub high : slice_index_or bytes 1 0 / 16 ≡ 0
  pub low : slice_index_or bytes 1 0 % 16 ≡ L
  pub least : 1 ≤ L
  pub most : L ≤ 6
  pub room : 2 + L ≤ length bytes

-- "1 first: 8 data bytes, L in 12 bits (low half, then the third byte), 7..255"
pub record IsFirst (bytes : List ℕ) (L : ℕ) : Type 0 where
  pub high : slice_index_or bytes 1 0 / 16 ≡ 1
  pub room : 8 ≤ length bytes
  pub named : slice_index_or bytes 1 0 % 16 * 256 + slice_index bytes 2 ≡ L
  pub least : 7 ≤ L
  pub most : L ≤ 255

-- "More than 255 is over-long"
pub record IsOverLong (bytes : List ℕ) : Type 0 where
  pub high : slice_index_or bytes 1 0 / 16 ≡ 1
  pub room : 8 ≤ length bytes
  pub over : 255 < slice_index bytes 1 % 16 * 256 + slice_index bytes 2

-- "2 consecutive: low half is the number"
pub record IsConsecutive (bytes : List ℕ) (number : ℕ) : Type 0 where
  pub high : slice_index_or bytes 1 0 / 16 ≡ 2
  pub low : slice_index_or bytes 1 0 % 16 ≡ number
  pub room : 2 ≤ length bytes
