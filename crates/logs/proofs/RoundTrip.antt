-- Written and read: the line of a frame is read as that frame, and every frame that is read can be written.
use mathlib.Core.Path.{◌≡◌, ◌∙◌, subst}
use mathlib.Core.List.{List, [], ◌∷◌}
use Prim.Native.Nat.{ℕ, ◌+◌, ◌*◌, ◌^◌, ◌≤◌, ◌<◌}
use native.Mathlib.Omega.{arith}
use borrow.Author.Tests.{lt-ltb}
use lib.ListN.{length, take}
use lib.Seq.{take-append_seam}
use Rattle.std.specs.Prelude.{Some, Ok}
use Rattle.text.specs.Digits.{digit_value, is_digit}
use Rattle.text.proofs.LawsValue.{digit-below}
use Rattle.logs.specs.Grammar.{Each, Formed, stamp_of, number_of_name, bytes_of}
use Rattle.logs.specs.Grammar.Each.{none, one}
use Rattle.logs.specs.Outcomes.{LineRead, eight, data_bytes, frame_said, Outcome, malformed, three_digits, too_large, stamped}
use Rattle.logs.specs.Lines.{line_read}
use Rattle.logs.specs.Fronts.{in_line}
use Rattle.logs.specs.Written.{line_text}
use Rattle.logs.specs.declared.answer.LogFrame.{LogFrame}
use Rattle.logs.proofs.LawsWritten.{length-name}
use Rattle.logs.proofs.WrittenLines.{is_byte, written-form, stamp-back, number-back, bytes_back}
use Rattle.logs.proofs.LawsForms.{bytes-length}
use Rattle.logs.proofs.LawsFronts.{line-in-line}
use Rattle.logs.proofs.ReadLines.{line_frame, some-outcome}

-- ---- "Export writes a line that imports to the same frame"
module _ (identifier : ℕ) (bytes : List ℕ) (stamp : ℕ) (range : identifier < 2 ^ 29) (few : length bytes ≤ 8) (each : Each is_byte bytes) (small : stamp < 2 ^ 32) where
  abbrev formed : Formed (line_text identifier bytes stamp)
  formed = record { seconds = _; micros = _; blanks = _; interface = _; name = _; digits = _; is = written-form identifier bytes stamp range few each small }

  pub written-imports : line_read (line_text identifier bytes stamp) ≡ frame_said identifier stamp bytes
  written-imports =
      line_frame formed (length-name identifier) (rw (number-back identifier range) range)
      ∙ rw (number-back identifier range, stamp-back stamp small, bytes_back bytes each)

  pub written-in-line : Each in_line (line_text identifier bytes stamp)
  written-in-line = line-in-line formed.is

-- the bytes of a frame are the first of its eight
pub eight-back : (bytes : List ℕ) → take (length bytes) (eight bytes) ≡ bytes
unfolding eight
eight-back bytes = take-append_seam bytes _

-- ---- what is read can be written: no identifier too large, no ninth byte
bytes_small : (xs : List ℕ) → Each (is_digit 16) xs → Each is_byte (bytes_of xs)
unfolding bytes_of
bytes_small [] none = none
bytes_small (a ∷ []) (one e es) = none
bytes_small (a ∷ b ∷ xs) (one e (one f es)) =
    let small : digit_value a * 16 + digit_value b < 256 = omega (arith, digit-below 16 a e, digit-below 16 b f) in
    one (lt-ltb _ _ small) (bytes_small xs es)

stamp-small : (seconds micros : List ℕ) → stamp_of seconds micros < 2 ^ 32
unfolding stamp_of
stamp-small seconds micros = omega arith

pub record CanBeWritten (f : LogFrame) : Type 0 where
  pub range : f.identifier < 2 ^ 29
  pub few : f.«data».count ≤ 8
  pub each : Each is_byte (take f.«data».count f.«data».bytes)
  pub small : f.stamp < 2 ^ 32

pub frame-writable : (l : List ℕ) (f : LogFrame) → line_read l ≡ Ok (Some f) → CanBeWritten f
frame-writable l f e = by-outcome (some-outcome l) e
  where
    by-outcome : {r : LineRead} → Outcome l r → r ≡ Ok (Some f) → CanBeWritten f
    by-outcome (malformed no-form) q = cc
    by-outcome (three_digits a h) q = cc
    by-outcome (too_large a h g) q = cc
    by-outcome (stamped a h g) q =
        let m = a.is.made in
        let w : CanBeWritten (record { identifier = number_of_name a.name; stamp = stamp_of a.seconds a.micros; «data» = data_bytes (bytes_of a.digits) }) =
        record {
          range = g;
          few = omega (arith, bytes-length a.digits m.data_even, m.data_few);
          each = rw (eight-back (bytes_of a.digits)) (bytes_small a.digits m.data_digits);
          small = stamp-small a.seconds a.micros;
        } in
        let same : record { identifier = number_of_name a.name; stamp = stamp_of a.seconds a.micros; «data» = data_bytes (bytes_of a.digits) } ≡ f = cc in
        subst CanBeWritten same w
