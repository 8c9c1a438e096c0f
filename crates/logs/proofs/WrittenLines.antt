-- The theorems of a line written: it has the form of a line, each of its parts says what was written, and with its newline it has at most 48 bytes.
use mathlib.Core.Path.{◌≡◌, refl, sym, ap, ◌∙◌}
use mathlib.Core.Bool.{Bool, true}
use mathlib.Core.List.{List, [], ◌∷◌, ◌++◌, append_assoc}
use mathlib.Core.Logic.{inr}
use Prim.Native.Nat.{ℕ, ◌+◌, ◌*◌, ◌/◌, ◌%◌, ◌^◌, ◌≤◌, ◌<◌}
use native.Mathlib.Nat.{mod-eq_of_lt}
use native.Mathlib.Omega.{arith}
use borrow.Author.Tests.{ltb-true, lt-ltb}
use lib.Dec.{ltb}
use lib.ListN.{length, length-append}
use Rattle.text.specs.Digits.{decimal, hex_digit, hex, newline, between, digit_value, is_digit, value_from}
use Rattle.text.proofs.LawsDigits.{decimal-one, length_some, hex-is, value-append}
use Rattle.text.proofs.LawsReading.{digits_decimal, digits-hex}
use Rattle.text.proofs.LawsValue.{in-range, digit-decimal, digit-says, is-digit}
use Rattle.text.proofs.Texts.{decimal-says, hex-says}
use Rattle.logs.specs.Grammar.{Each, IsLine, stamp_of, number_of_name, bytes_of}
use Rattle.logs.specs.Grammar.Each.{none, one}
use Rattle.logs.specs.Written.{hexes, millis, four_bytes, can0, line_text}
use Rattle.logs.proofs.LawsRuns.{each_append, digits-each}
use Rattle.logs.proofs.LawsWritten.{length-hexes, hexes-last, length-millis, length-name, length-seconds}

-- a number that a byte holds
abbrev pub is_byte : ℕ → Bool
is_byte b = ltb b 256

-- ---- every byte of the parts
millis-digits : (m : ℕ) → m < 1000 → Each (is_digit 10) (millis m)
unfolding millis
millis-digits m h =
    let digit : (d : ℕ) → d < 10 → is_digit 10 (48 + d) ≡ true = λ d (l : d < 10). is-digit 10 (48 + d) (sym (digit-decimal d l)) l in
    let last = digit 0 (omega arith) in
    one (digit (m / 100) (omega arith)) (one (digit (m / 10 % 10) (omega arith)) (one (digit (m % 10) (omega arith)) (one last (one last (one last none)))))

hexes-digits : (bytes : List ℕ) → Each is_byte bytes → Each (is_digit 16) (hexes bytes)
unfolding hexes
hexes-digits [] none = none
hexes-digits (b ∷ bs) (one e es) = each_append (hex b) (hexes bs) (digits-each 16 (hex b) (digits-hex b (ltb-true _ _ e))) (hexes-digits bs es)

four_are : (n : ℕ) → n < 2 ^ 29 → Each is_byte (four_bytes n)
unfolding four_bytes
four_are n h =
    let a : n / 2 ^ 24 < 256 = omega arith in
    let b : n / 2 ^ 16 % 2 ^ 8 < 256 = omega arith in
    let c : n / 2 ^ 8 % 2 ^ 8 < 256 = omega arith in
    let d : n % 2 ^ 8 < 256 = omega arith in
    one (lt-ltb _ _ a) (one (lt-ltb _ _ b) (one (lt-ltb _ _ c) (one (lt-ltb _ _ d) none)))

shown : Each (between 33 126) can0
shown = let is = in-range 33 126 in
    one (is 99 (omega arith) (omega arith)) (one (is 97 (omega arith) (omega arith)) (one (is 110 (omega arith) (omega arith)) (one (is 48 (omega arith) (omega arith)) none)))

-- ---- what the parts say
-- one digit more
digit-more : (text : List ℕ) (d : ℕ) → d < 10 → value_from 10 0 (text ++ ((48 + d) ∷ [])) ≡ value_from 10 0 text * 10 + d
digit-more text d h = value-append 10 0 text (48 + d) ∙ omega (arith, digit-decimal d h)

millis-say : (m : ℕ) → m < 1000 → value_from 10 0 (millis m) ≡ m * 1000
unfolding millis
millis-say m h =
    let a = 48 + m / 100 in
    let b = 48 + m / 10 % 10 in
    let c = 48 + m % 10 in
    let first : value_from 10 0 (a ∷ []) ≡ m / 100 = ap (value_from 10 0) (sym (decimal-one (m / 100) (omega arith))) ∙ decimal-says (m / 100) in
    let second = digit-more (a ∷ []) (m / 10 % 10) (omega arith) in
    let third : value_from 10 0 (a ∷ b ∷ c ∷ []) ≡ m = digit-more (a ∷ b ∷ []) (m % 10) (omega arith) ∙ omega arith in
    let four = digit-more (a ∷ b ∷ c ∷ []) 0 (omega arith) in
    let five = digit-more (a ∷ b ∷ c ∷ 48 ∷ []) 0 (omega arith) in
    digit-more (a ∷ b ∷ c ∷ 48 ∷ 48 ∷ []) 0 (omega arith) ∙ omega arith

pair-says : (b : ℕ) → b < 256 → digit_value (hex_digit (b / 16)) * 16 + digit_value (hex_digit (b % 16)) ≡ b
pair-says b h = omega (arith, digit-says (b / 16) (omega arith), digit-says (b % 16) (omega arith))

-- one byte more
hexes-say : (bytes : List ℕ) (b : ℕ) → b < 256 → value_from 16 0 (hexes (bytes ++ (b ∷ []))) ≡ value_from 16 0 (hexes bytes) * 256 + b
hexes-say bytes b h =
    let high = hex_digit (b / 16) in
    let low = hex_digit (b % 16) in
    let two : hexes (bytes ++ (b ∷ [])) ≡ hexes bytes ++ (high ∷ low ∷ []) = hexes-last bytes b ∙ ap (λ (l : List ℕ). hexes bytes ++ l) (hex-is b) in
    ap (value_from 16 0) (two ∙ sym (append_assoc (hexes bytes) (high ∷ []) (low ∷ [])))
    ∙ value-append 16 0 (hexes bytes ++ (high ∷ [])) low
    ∙ omega (arith, value-append 16 0 (hexes bytes) high, pair-says b h)

-- ---- the theorems
-- the text that the caller lends holds every line
pub written-length : (identifier : ℕ) (bytes : List ℕ) (stamp : ℕ) → length bytes ≤ 8 → stamp < 2 ^ 32 → length (line_text identifier bytes stamp ++ newline) ≤ 48
unfolding line_text
written-length identifier bytes stamp few small =
    let seconds = length-seconds stamp small in
    simp length-append (omega (arith, seconds, length-millis (stamp % 1000), length-name identifier, length-hexes bytes))

-- the digits say the bytes that were written, the identifier and the stamp
pub bytes_back : (bytes : List ℕ) → Each is_byte bytes → bytes_of (hexes bytes) ≡ bytes
unfolding hexes bytes_of
bytes_back [] none = refl
bytes_back (b ∷ bs) (one e es) = rw (hex-is b, pair-says b (ltb-true _ _ e), bytes_back bs es)

pub number-back : (identifier : ℕ) → identifier < 2 ^ 29 → number_of_name (hexes (four_bytes identifier)) ≡ identifier
unfolding number_of_name four_bytes hexes
number-back n range =
    let a = n / 2 ^ 24 in
    let b = n / 2 ^ 16 % 2 ^ 8 in
    let c = n / 2 ^ 8 % 2 ^ 8 in
    let d = n % 2 ^ 8 in
    let first : value_from 16 0 (hexes (a ∷ [])) ≡ a = ap (value_from 16 0) (hexes-last [] a) ∙ hex-says a (omega arith) in
    omega (arith, first, hexes-say (a ∷ []) b (omega arith), hexes-say (a ∷ b ∷ []) c (omega arith), hexes-say (a ∷ b ∷ c ∷ []) d (omega arith))

pub stamp-back : (stamp : ℕ) → stamp < 2 ^ 32 → stamp_of (decimal (stamp / 1000)) (millis (stamp % 1000)) ≡ stamp
unfolding stamp_of
stamp-back stamp small =
    let thousands : (m : ℕ) → m * 1000 / 1000 ≡ m = λ m. omega arith in
    let back : stamp / 1000 * 1000 + stamp % 1000 ≡ stamp = omega arith in
    rw (decimal-says (stamp / 1000), millis-say (stamp % 1000) (omega arith), thousands (stamp % 1000), back) (mod-eq_of_lt small)

-- and the line has the form: one blank, the interface `can0`, eight digits of the identifier
module _ (identifier : ℕ) (bytes : List ℕ) (stamp : ℕ) (range : identifier < 2 ^ 29) (few : length bytes ≤ 8) (each : Each is_byte bytes) (small : stamp < 2 ^ 32) where
  pub written-form : IsLine (line_text identifier bytes stamp) (decimal (stamp / 1000)) (millis (stamp % 1000)) (32 ∷ []) can0 (hexes (four_bytes identifier)) (hexes bytes)
  unfolding line_text
  written-form =
      record {
        whole = refl;
        short = omega (arith, written-length identifier bytes stamp few small, length-append (line_text identifier bytes stamp) newline);
        made = record {
          seconds_digits = digits-each 10 (decimal (stamp / 1000)) (digits_decimal (stamp / 1000));
          seconds_some = length_some (stamp / 1000);
          micros_digits = millis-digits (stamp % 1000) (omega arith);
          micros_six = length-millis (stamp % 1000);
          blanks_blank = one (in-range 32 32 32 (omega arith) (omega arith)) none;
          blanks_some = omega arith;
          interface_shown = shown;
          interface_some = omega arith;
          name_digits = hexes-digits (four_bytes identifier) (four_are identifier range);
          name_size = inr (length-name identifier);
          data_digits = hexes-digits bytes each;
          data_even = omega (arith, length-hexes bytes);
          data_few = omega (arith, length-hexes bytes);
        };
      }
