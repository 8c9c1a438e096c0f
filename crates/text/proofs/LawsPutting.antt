-- Laws of texts put where they fit: what room says, what follows where there is room and where there is none, and digits put from the last one on.
use mathlib.Core.Path.{◌≡◌, refl, sym, ap, ◌∙◌}
use mathlib.Core.Bool.{Bool, true, false}
use mathlib.Core.List.{List, [], ◌∷◌, ◌++◌}
use Prim.Native.Nat.{ℕ, ◌+◌, ◌/◌, ◌%◌, ◌≤◌, ◌<◌}
use native.Mathlib.Omega.{arith}
use borrow.Author.Tests.{leb-true, leb-false, le-leb, lt-leb, ltb-true, ltb-false}
use lib.Dec.{leb, ltb}
use lib.ListN.{length, take, set}
use lib.Seq.{set_comm}
use Rattle.identifiers.specs.Bytes.{written, Puts}
use Rattle.identifiers.proofs.LawsBytes.{written_none, length-written, written-append, puts-byte, keeps-length, puts_whole}
use Rattle.identifiers.proofs.LawsChoice.{taken, passed, pick_true, pick-false, by-test}
use Rattle.text.specs.Digits.{decimal}
use Rattle.text.specs.Putting.{fits, PutsIfFits}
use Rattle.text.proofs.LawsDigits.{decimal-one, decimal-more, length-one, length_more, length_some}

-- ---- room
module _ (buffer : List ℕ) (at count : ℕ) where
  pub has_room : at + count ≤ length buffer → fits buffer at count ≡ true
  unfolding fits
  has_room h = le-leb _ _ h

  pub no_room : length buffer < at + count → fits buffer at count ≡ false
  unfolding fits
  no_room h = lt-leb _ _ h

  -- what a test of it says
  pub room-is : {r : Bool} → r ≡ fits buffer at count → r ≡ true → at + count ≤ length buffer
  unfolding fits
  room-is {r} e t = leb-true _ _ (sym e ∙ t)

  pub room-is-not : {r : Bool} → r ≡ fits buffer at count → r ≡ false → length buffer < at + count
  unfolding fits
  room-is-not {r} e t = leb-false _ _ (sym e ∙ t)

-- ---- put where it fits
pub room-behind : (k n : ℕ) {before bytes after : List ℕ} {at end : ℕ} → length bytes ≤ k → at + (k + n) ≤ length before → Puts before at bytes end after → end + n ≤ length after
room-behind k n l h p = omega (arith, p.ends, keeps-length p)

-- what was put from the start on, up to an end that lies in the buffer, is the whole text
pub put-stands : {before bytes after : List ℕ} {end : ℕ} → end ≤ length after → Puts before 0 bytes end after → take end after ≡ bytes
put-stands h p = puts_whole (omega (arith, h, p.ends, keeps-length p)) p

module _ {before text after : List ℕ} {at end : ℕ} where
  pub put-fits : at + length text ≤ length before → PutsIfFits before at text end after → Puts before at text end after
  put-fits h p = let f = has_room before at (length text) h in record { ends = p.ends ∙ pick_true _ _ f; holds = p.holds ∙ pick_true _ _ f }

  pub put-not : length before < at + length text → PutsIfFits before at text end after → (end ≡ at) × (after ≡ before)
  put-not h p = let f = no_room before at (length text) h in (p.ends ∙ pick-false _ _ f, p.holds ∙ pick-false _ _ f)

  pub puts-fitting : at + length text ≤ length before → Puts before at text end after → PutsIfFits before at text end after
  puts-fitting h p = let f = has_room before at (length text) h in record { ends = taken _ f p.ends; holds = taken _ f p.holds }

  -- a text of at most k bytes that is put where there is room for k: where there is room for k and n more, it was put, and there is room for n behind it
  pub put-given : (k n : ℕ) → length text ≤ k → at + (k + n) ≤ length before → (at + k ≤ length before → Puts before at text end after) → Puts before at text end after × (end + n ≤ length after)
  put-given k n l h put = let p = put (omega arith) in (p, room-behind k n l h p)

  pub put_on : (k n : ℕ) → length text ≤ k → at + (k + n) ≤ length before → PutsIfFits before at text end after → Puts before at text end after × (end + n ≤ length after)
  put_on k n l h p = put-given k n l h (λ (r : at + k ≤ length before). put-fits (omega arith) p)

  pub if-fits-length : PutsIfFits before at text end after → length after ≡ length before
  if-fits-length p =
      ap length p.holds
      ∙ (by-test {P = λ (l : List ℕ). length l ≡ length before} (fits before at (length text)) (λ e. record { holds = length-written before at text }) (λ e. record { holds = refl })).holds

  pub if-fits-within : at ≤ length before → PutsIfFits before at text end after → end ≤ length before
  unfolding fits
  if-fits-within h p = rw p.ends (by-test {P = λ (e : ℕ). e ≤ length before} (leb (at + length text) (length before)) (λ e. record { holds = leb-true _ _ e }) (λ e. record { holds = h })).holds

pub puts_nothing : (before : List ℕ) (at : ℕ) (text : List ℕ) → (at + length text ≤ length before → ⊥) → PutsIfFits before at text at before
puts_nothing before at text h = let f = no_room before at (length text) (omega arith) in record { ends = passed _ f refl; holds = passed _ f refl }

-- ---- from the last byte on
-- the first byte, then the others
written-first : (buffer : List ℕ) (at x : ℕ) (xs : List ℕ) → written buffer at (x ∷ xs) ≡ written (set buffer at x) (at + 1) xs
written-first buffer at x xs = written-append buffer at (x ∷ []) xs ∙ ap (λ (l : List ℕ). written l (at + 1) xs) (sym (puts-byte buffer at x).holds)

-- a byte behind the others is put before them or after them
set-behind : (buffer : List ℕ) (at : ℕ) (xs : List ℕ) (j d : ℕ) → at + length xs ≤ j → written (set buffer j d) at xs ≡ set (written buffer at xs) j d
set-behind buffer at [] j d h = written_none (set buffer j d) at ∙ ap (λ (l : List ℕ). set l j d) (sym (written_none buffer at))
set-behind buffer at (x ∷ xs) j d h =
    let other : j ≡ at → ⊥ = (λ e. omega arith) in
    written-first (set buffer j d) at x xs
    ∙ ap (λ (l : List ℕ). written l (at + 1) xs) (set_comm buffer j at d x other)
    ∙ set-behind (set buffer at x) (at + 1) xs j d (omega arith)
    ∙ ap (λ (l : List ℕ). set l j d) (sym (written-first buffer at x xs))

pub written_last : (buffer : List ℕ) (at : ℕ) (xs : List ℕ) (d : ℕ) → written (set buffer (at + length xs) d) at xs ≡ written buffer at (xs ++ (d ∷ []))
written_last buffer at xs d =
    set-behind buffer at xs (at + length xs) d (omega arith)
    ∙ (puts-byte (written buffer at xs) (at + length xs) d).holds
    ∙ sym (written-append buffer at xs (d ∷ []))

-- a loop that puts a number's digits from the last one on: with the digits of the rest, up to the place behind them, all stand
pub record ToPut (before : List ℕ) (at number : ℕ) (buffer : List ℕ) (rest end : ℕ) : Type 0 where
  pub ends : end ≡ at + length (decimal rest)
  pub gives : written buffer at (decimal rest) ≡ written before at (decimal number)

module _ {before : List ℕ} {at number : ℕ} {buffer : List ℕ} {rest end : ℕ} (t : ToPut before at number buffer rest end) where
  pub to-put-more : (place : ℕ) → at < place → end ≡ place + 1 → ToPut before at number (set buffer place (48 + rest % 10)) (rest / 10) place
  to-put-more place l p =
      let h : 10 ≤ rest = to-put-some l p (ltb rest 10) refl in
      let e : place ≡ at + length (decimal (rest / 10)) = omega (arith, t.ends, length_more rest h) in
      record {
        ends = e;
        gives = ap (λ (k : ℕ). written (set buffer k (48 + rest % 10)) at (decimal (rest / 10))) e
            ∙ written_last buffer at (decimal (rest / 10)) (48 + rest % 10)
            ∙ ap (written buffer at) (sym (decimal-more rest h))
            ∙ t.gives;
      }
    where
      to-put-some : at < place → end ≡ place + 1 → (test : Bool) → ltb rest 10 ≡ test → 10 ≤ rest
      to-put-some l p true q = absurd (omega (arith, t.ends, length-one rest (ltb-true _ _ q)))
      to-put-some l p false q = ltb-false _ _ q

  -- the first digit is the rest
  pub to-put-first : end ≤ at + 1 → rest < 10
  to-put-first l = by-size (ltb rest 10) refl
    where
      by-size : (test : Bool) → ltb rest 10 ≡ test → rest < 10
      by-size true q = ltb-true _ _ q
      by-size false q = absurd (omega (arith, t.ends, length_more rest (ltb-false _ _ q), length_some (rest / 10)))

  pub to-put-done : end ≤ at + 1 → set buffer at (48 + rest) ≡ written before at (decimal number)
  to-put-done l =
      (puts-byte buffer at (48 + rest)).holds
      ∙ ap (written buffer at) (sym (decimal-one rest (to-put-first l)))
      ∙ t.gives
