-- Laws of a line as it is written: bytes as pairs of digits, how long the parts are, the line put in nine parts, and the three outcomes.
use mathlib.Core.Path.{◌≡◌, refl, sym, ap, ◌∙◌}
use mathlib.Core.List.{List, [], ◌∷◌, ◌++◌, append_assoc, append-nil}
use Prim.Native.Nat.{ℕ, ◌+◌, ◌*◌, ◌/◌, ◌%◌, ◌^◌, ◌≤◌, ◌<◌}
use native.Mathlib.Nat.{le_of_eq, mod-eq_of_lt}
use native.Mathlib.Numerals.{add-one}
use native.Mathlib.Omega.{arith}
use borrow.Author.Tests.{lt-ltb, le-ltb, le-leb, lt-leb}
use lib.ListN.{length, get_or, take, length-append}
use lib.Seq.{take-suc, length-take-le}
use Rattle.std.specs.Prelude.{Ok, Err}
use Rattle.std.specs.Int.{w32, to_be_bytes}
use Rattle.identifiers.specs.Bytes.{Puts}
use Rattle.identifiers.specs.Refusals.{refusal}
use Rattle.identifiers.proofs.LawsBytes.{puts_none, puts-as, keeps-length, ◌▸◌}
use Rattle.identifiers.proofs.LawsChoice.{taken, passed}
use Rattle.text.specs.Digits.{decimal, hex, newline}
use Rattle.text.specs.Putting.{PutsIfFits}
use Rattle.text.proofs.LawsDigits.{length-decimal, length-hex}
use Rattle.text.proofs.LawsPutting.{put-fits, room-behind}
use Rattle.logs.specs.Written.{hexes, millis, four_bytes, can0, line_text, line_written, text_after}

-- ---- bytes in a row
pub length-hexes : (bytes : List ℕ) → length (hexes bytes) ≡ 2 * length bytes
unfolding hexes
length-hexes [] = refl
length-hexes (b ∷ bs) = length-append (hex b) (hexes bs) ∙ omega (arith, length-hex b, length-hexes bs)

hexes-append : (xs ys : List ℕ) → hexes (xs ++ ys) ≡ hexes xs ++ hexes ys
unfolding hexes
hexes-append [] ys = refl
hexes-append (x ∷ xs) ys = rw (hexes-append xs ys) (sym (append_assoc (hex x) (hexes xs) (hexes ys)))

pub hexes-last : (bytes : List ℕ) (b : ℕ) → hexes (bytes ++ (b ∷ [])) ≡ hexes bytes ++ hex b
unfolding hexes
hexes-last bytes b = hexes-append bytes (b ∷ []) ∙ rw (append-nil (hex b))

-- a loop that puts them: one byte more
pub put-more : {before text after : List ℕ} (bytes : List ℕ) {start at end i : ℕ} → start + 2 * length bytes ≤ length before → i < length bytes
    → Puts before start (hexes (take i bytes)) at text → PutsIfFits text at (hex (get_or bytes i 0)) end after → Puts before start (hexes (take (i + 1) bytes)) end after
put-more bytes {i = i} room l p q =
    let one : take (i + 1) bytes ≡ take i bytes ++ (get_or bytes i 0 ∷ []) = ap (λ (k : ℕ). take k bytes) (add-one i) ∙ take-suc bytes i 0 l in
    let size = length-take-le i bytes (omega arith) in
    let r = put-fits (omega (arith, p.ends, keeps-length p, length-hexes (take i bytes), length-hex (get_or bytes i 0))) q in
    puts-as (p ▸ r) (sym (ap hexes one ∙ hexes-last (take i bytes) (get_or bytes i 0)))

-- ---- the parts
-- the four bytes of an identifier, as the code takes them
pub name-bytes : (n : ℕ) → n < 2 ^ 29 → to_be_bytes w32 n ≡ four_bytes n
unfolding four_bytes
name-bytes n h =
    let a : n / 2 ^ 24 % 2 ^ 8 ≡ n / 2 ^ 24 = mod-eq_of_lt (omega arith) in
    ap (λ (b : ℕ). b ∷ n / 2 ^ 16 % 2 ^ 8 ∷ n / 2 ^ 8 % 2 ^ 8 ∷ n % 2 ^ 8 ∷ []) a

pub length-millis : (m : ℕ) → length (millis m) ≡ 6
unfolding millis
length-millis m = refl

pub length-name : (n : ℕ) → length (hexes (four_bytes n)) ≡ 8
unfolding four_bytes
length-name n = length-hexes (four_bytes n)

-- 2^32 milliseconds are less than 10^7 seconds
pub length-seconds : (stamp : ℕ) → stamp < 2 ^ 32 → length (decimal (stamp / 1000)) ≤ 7
length-seconds stamp h = length-decimal 7 (stamp / 1000) (omega arith) (omega arith)

-- ---- the line, put in nine parts
-- `(S.`, and `(S.mmm000) can0 `, and `(S.mmm000) can0 ID#`
abbrev pub to_millis : ℕ → List ℕ
to_millis stamp = (40 ∷ []) ++ decimal (stamp / 1000) ++ (46 ∷ [])

abbrev pub to_name : ℕ → List ℕ
to_name stamp = to_millis stamp ++ millis (stamp % 1000) ++ (41 ∷ 32 ∷ 99 ∷ 97 ∷ 110 ∷ 48 ∷ 32 ∷ [])

abbrev pub to_data : ℕ → ℕ → List ℕ
to_data identifier stamp = to_name stamp ++ hexes (four_bytes identifier) ++ (35 ∷ [])

line-parts : (S M N D : List ℕ) → (40 ∷ []) ++ S ++ (46 ∷ []) ++ M ++ (41 ∷ 32 ∷ 99 ∷ 97 ∷ 110 ∷ 48 ∷ 32 ∷ []) ++ N ++ (35 ∷ []) ++ D ++ newline
    ≡ (40 ∷ (S ++ (46 ∷ (M ++ (41 ∷ ((32 ∷ []) ++ (can0 ++ (32 ∷ (N ++ (35 ∷ D)))))))))) ++ newline
line-parts S M N D = simp append_assoc

-- the bytes stand from the start on, and behind them is room for so many more
pub record PutSoFar (before bytes : List ℕ) (end : ℕ) (after : List ℕ) (left : ℕ) : Type 0 where
  pub puts : Puts before 0 bytes end after
  pub room : end + left ≤ length after

module _ {before text after xs ys : List ℕ} {at end : ℕ} (k left : ℕ) (l : length ys ≤ k) (p : PutSoFar before xs at text (k + left)) where
  so-far-put : Puts text at ys end after → PutSoFar before (xs ++ ys) end after left
  so-far-put q = record { puts = p.puts ▸ q; room = room-behind k left l p.room q }

  so-far-fits : PutsIfFits text at ys end after → PutSoFar before (xs ++ ys) end after left
  so-far-fits q = so-far-put (put-fits (omega (arith, p.room)) q)

module _ {before after : List ℕ} {end : ℕ} (stamp : ℕ) where
  pub put-seconds : {b c : List ℕ} {m n : ℕ} → length before ≡ 48 → stamp < 2 ^ 32
      → PutsIfFits before 0 (40 ∷ []) m b → PutsIfFits b m (decimal (stamp / 1000)) n c → PutsIfFits c n (46 ∷ []) end after → PutSoFar before (to_millis stamp) end after 39
  put-seconds long small p q r =
      let start : PutSoFar before [] 0 before 48 = record { puts = puts_none _ _; room = omega arith } in
      so-far-fits 1 39 (omega arith) (so-far-fits 7 40 (length-seconds stamp small) (so-far-fits 1 47 (omega arith) start p) q) r

  module _ {text b : List ℕ} {at m : ℕ} where
    pub put-stamp : PutSoFar before (to_millis stamp) at text 39
        → Puts text at (millis (stamp % 1000)) m b → PutsIfFits b m (41 ∷ 32 ∷ 99 ∷ 97 ∷ 110 ∷ 48 ∷ 32 ∷ []) end after → PutSoFar before (to_name stamp) end after 26
    put-stamp s p q = so-far-fits 7 26 (omega arith) (so-far-put 6 33 (le_of_eq (length-millis _)) s p) q

    pub put-name : (identifier : ℕ) {name : List ℕ} → name ≡ four_bytes identifier → PutSoFar before (to_name stamp) at text 26
        → Puts text at (hexes name) m b → PutsIfFits b m (35 ∷ []) end after → PutSoFar before (to_data identifier stamp) end after 17
    put-name identifier e s p q = so-far-fits 1 17 (omega arith) (so-far-put 8 18 (le_of_eq (length-name identifier)) s (puts-as p (ap hexes e))) q

    pub put-data : (identifier : ℕ) (bytes : List ℕ) → length bytes ≤ 8 → PutSoFar before (to_data identifier stamp) at text 17
        → Puts text at (hexes bytes) m b → PutsIfFits b m newline end after → Puts before 0 (line_text identifier bytes stamp ++ newline) end after
    unfolding line_text
    put-data identifier bytes few s p q =
        let t = so-far-fits 1 0 (omega arith) (so-far-put 16 1 (omega (arith, length-hexes bytes)) s p) q in
        puts-as t.puts (line-parts (decimal (stamp / 1000)) (millis (stamp % 1000)) (hexes (four_bytes identifier)) (hexes bytes))

-- ---- the three outcomes
module _ (identifier : ℕ) (bytes : List ℕ) (stamp : ℕ) (before : List ℕ) where
  pub write-2 : 2 ^ 29 ≤ identifier → (Err (refusal 2) ≡ line_written identifier bytes stamp) × (before ≡ text_after identifier bytes stamp before)
  unfolding line_written text_after
  write-2 h = let large = le-leb _ _ h in (taken _ large refl, taken _ large refl)

  module _ (range : identifier < 2 ^ 29) where
    pub write-3 : 8 < length bytes → (Err (refusal 3) ≡ line_written identifier bytes stamp) × (before ≡ text_after identifier bytes stamp before)
    unfolding line_written text_after
    write-3 h = let small = lt-leb _ _ range in let many = lt-ltb _ _ h in (passed _ small (taken _ many refl), passed _ small (taken _ many refl))

    pub write-whole : {end : ℕ} {after : List ℕ} → length bytes ≤ 8 → Puts before 0 (line_text identifier bytes stamp ++ newline) end after
        → (Ok end ≡ line_written identifier bytes stamp) × (after ≡ text_after identifier bytes stamp before)
    unfolding line_written text_after
    write-whole {end} h p =
        let small = lt-leb _ _ range in
        let few = le-ltb _ _ h in
        let e : end ≡ length (line_text identifier bytes stamp ++ newline) = omega (arith, p.ends) in
        (passed _ small (passed _ few (ap Ok e)), passed _ small (passed _ few p.holds))
