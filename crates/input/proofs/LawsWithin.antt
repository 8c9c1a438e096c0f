-- Laws of what the operating system answers: bytes read lie in the buffer, also where they follow others, a word's number lies below its bound,
-- and no bytes are always written.
use Rattle.std.specs.Prelude.{Option, Some, None, Result, Ok, Err}
use Rattle.std.specs.Result.{IsErr, result_ok}
use mathlib.Core.Path.{◌≡◌, refl, sym, ap, ◌∙◌}
use mathlib.Core.Bool.{Bool, true}
use mathlib.Core.List.{List}
use Prim.Native.Nat.{ℕ, ◌+◌, ◌-◌, ◌^◌, ◌≤◌, ◌<◌}
use native.Mathlib.Omega.{arith}
use borrow.Author.Tests.{leb-true, le-leb, ltb-true, lt-ltb}
use lib.Dec.{ltb}
use lib.ListN.{length, take, drop, length-take, length-drop}
use lib.Seq.{length-take-le}
use Rattle.identifiers.proofs.LawsChoice.{left-holds, right-holds}
use Rattle.text.specs.Reading.{digits_read}
use Rattle.text.proofs.LawsReading.{value-below}
use Rattle.text.proofs.Texts.{read-exactly}
use Rattle.input.specs.Within.{within, below, empty_written}

pub bytes-within : (E : Type 0) (room n : ℕ) → n ≤ room → within {E = E} room (Ok n) ≡ true
unfolding within
bytes-within E room n h = le-leb _ _ h

pub failed-within : {E : Type 0} (room : ℕ) (r : Result ℕ E) → IsErr r → within room r ≡ true
unfolding within
failed-within room (Ok n) h = cc
failed-within room (Err e) h = refl

pub within_bytes : {E : Type 0} (room n : ℕ) (r : Result ℕ E) → r ≡ Ok n → within room r ≡ true → n ≤ room
unfolding within
within_bytes room n r e h = leb-true _ _ (rw e at h)

-- the same, as `.ok()?` asks it
pub within-some : {E : Type 0} (room n : ℕ) (r : Result ℕ E) {o : Option ℕ} → o ≡ result_ok r → o ≡ Some n → within room r ≡ true → n ≤ room
within-some room n (Ok m) e s w = let q : Some m ≡ Some n = sym e ∙ s in let p : m ≡ n = cc in within_bytes room n (Ok m) (ap Ok p) w
within-some room n (Err f) e s w = let q : None ≡ Some n = sym e ∙ s in cc

-- bytes read into the rest of a buffer, from a place on
pub more_within : {E : Type 0} (buffer : List ℕ) (room at n : ℕ) (r : Result ℕ E) → at ≤ length buffer → room ≡ length (take (length buffer - at) (drop at buffer)) → r ≡ Ok n
    → within room r ≡ true
    → at + n ≤ length buffer
more_within buffer room at n r h l e w =
    let rest : length (take (length buffer - at) (drop at buffer)) ≡ length buffer - at = simp (length-take, length-drop) (omega arith) in
    omega (arith, within_bytes room n r e w)

-- a chunk is no longer than its buffer
pub chunk-length : {E : Type 0} (buffer : List ℕ) {n most : ℕ} {r : Result ℕ E} → r ≡ Ok n → within (length buffer) r ≡ true → length buffer ≡ most → length (take n buffer) ≤ most
chunk-length buffer {n} e w l = let h = within_bytes _ n _ e w in omega (arith, length-take-le n buffer h, h, l)

-- ---- numbers
pub none_below : (bound : ℕ) → below bound None ≡ true
unfolding below
none_below bound = refl

pub below_number : (bound n : ℕ) (r : Option ℕ) → r ≡ Some n → below bound r ≡ true → n < bound
unfolding below
below_number bound n r e h = ltb-true _ _ (rw e at h)

-- exactly so many digits say less than so many places can hold
pub read_below : (base places : ℕ) (text : List ℕ) → below (base ^ places) (digits_read base places text) ≡ true
unfolding below
read_below base places text = by-read (digits_read base places text) refl
  where
    by-read : (r : Option ℕ) → digits_read base places text ≡ r → below (base ^ places) r ≡ true
    by-read (Some n) e =
        let s = (read-exactly base places text n).0 e in
        lt-ltb _ _ (rw (s.value, s.long) at (value-below base text s.digits))
    by-read None e = refl

-- ---- a text
pub all_written : (count : ℕ) → empty_written count true ≡ true
unfolding empty_written
all_written count = sym (right-holds (ltb 0 count) refl)

pub not_empty : (count : ℕ) (done : Bool) → (count ≡ 0 → ⊥) → empty_written count done ≡ true
unfolding empty_written
not_empty count done h = sym (left-holds done (lt-ltb 0 count (omega arith)))
