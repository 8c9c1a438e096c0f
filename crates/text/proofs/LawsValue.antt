-- Laws of the value of a digit: what each of the 22 digits is worth, that no other byte is worth less than 16, and that the code's arithmetic gives it.
use mathlib.Core.Path.{◌≡◌, refl, sym, ap, ◌∙◌}
use mathlib.Core.Bool.{Bool, true, false, ◌&&◌, false≢true}
use Prim.Native.Nat.{ℕ, ◌+◌, ◌-◌, ◌%◌, ◌≤◌, ◌<◌}
use native.Mathlib.Omega.{arith}
use borrow.Author.Tests.{ltb-true, ltb-false, lt-ltb, le-ltb, leb-true, le-leb, lt-leb, eqb-true}
use lib.Bits.{bit_or}
use lib.Dec.{leb, ltb, eqb}
use Rattle.identifiers.specs.Choice.{pick, both}
use Rattle.std.proofs.lemmas.Bool.{agree_below_at}
use Rattle.identifiers.proofs.LawsChoice.{and_is, both_true, pick_true, pick-false, by-test}
use Rattle.text.specs.Digits.{hex_digit, between, digit_value, is_digit}

-- ---- a range of bytes
pub within : (low high b : ℕ) → between low high b ≡ true → (low ≤ b) × (b ≤ high)
unfolding between
within low high b e = let t = both_true _ _ e in (leb-true _ _ t.0, leb-true _ _ t.1)

pub in-range : (low high b : ℕ) → low ≤ b → b ≤ high → between low high b ≡ true
unfolding between both
in-range low high b l h = rw (le-leb _ _ l, le-leb _ _ h)

pub above-range : (low high b : ℕ) → low ≤ b → high < b → between low high b ≡ false
unfolding between both
above-range low high b l h = rw (le-leb _ _ l, lt-leb _ _ h)

pub below-range : (low high b : ℕ) → b < low → between low high b ≡ false
unfolding between both
below-range low high b h = rw (lt-leb _ _ h)

-- as code asks it
pub range-test : (low high b : ℕ) → (leb low b && leb b high) ≡ between low high b
unfolding between
range-test low high b = and_is _ _

-- ---- the digits
pub worth-decimal : (b : ℕ) → 48 ≤ b → b ≤ 57 → digit_value b ≡ b - 48
unfolding digit_value
worth-decimal b l h = pick_true _ _ (in-range 48 57 b l h)

pub worth-capital : (b : ℕ) → 65 ≤ b → b ≤ 70 → digit_value b ≡ b - 55
unfolding digit_value
worth-capital b l h = pick-false _ _ (above-range 48 57 b (omega arith) (omega arith)) ∙ pick_true _ _ (in-range 65 70 b l h)

pub worth-small : (b : ℕ) → 97 ≤ b → b ≤ 102 → digit_value b ≡ b - 87
unfolding digit_value
worth-small b l h =
    pick-false _ _ (above-range 48 57 b (omega arith) (omega arith)) ∙ pick-false _ _ (above-range 65 70 b (omega arith) (omega arith)) ∙ pick_true _ _ (in-range 97 102 b l h)

pub digit-decimal : (d : ℕ) → d < 10 → digit_value (48 + d) ≡ d
digit-decimal d h = worth-decimal (48 + d) (omega arith) (omega arith) ∙ omega arith

pub digit-capital : (d : ℕ) → 10 ≤ d → d < 16 → digit_value (55 + d) ≡ d
digit-capital d a h = worth-capital (55 + d) (omega arith) (omega arith) ∙ omega arith

pub digit-says : (d : ℕ) → d < 16 → digit_value (hex_digit d) ≡ d
unfolding hex_digit
digit-says d h =
    (by-test {P = λ (b : ℕ). digit_value b ≡ d} (ltb d 10) (λ e. record { holds = digit-decimal d (ltb-true _ _ e) }) (λ e. record { holds = digit-capital d (ltb-false _ _ e) h })).holds

pub is-digit : (base b : ℕ) {v : ℕ} → v ≡ digit_value b → v < base → is_digit base b ≡ true
unfolding is_digit
is-digit base b e h = ap (λ (x : ℕ). ltb x base) (sym e) ∙ lt-ltb _ _ h

pub no_digit : (base b : ℕ) {v : ℕ} → v ≡ digit_value b → base ≤ v → is_digit base b ≡ false
unfolding is_digit
no_digit base b e h = ap (λ (x : ℕ). ltb x base) (sym e) ∙ le-ltb _ _ h

pub digit-below : (base b : ℕ) → is_digit base b ≡ true → digit_value b < base
unfolding is_digit
digit-below base b e = ltb-true _ _ e

-- the test itself, as code asks it
pub digit-test : (base b : ℕ) {v : ℕ} → v ≡ digit_value b → ltb v base ≡ is_digit base b
unfolding is_digit
digit-test base b e = ap (λ (x : ℕ). ltb x base) e

-- ---- no other byte
-- a byte in one of the three ranges, or in none: which, what it is worth, and where it stands
pub data Worth (b : ℕ) : ℕ → Type 0 where
  decimal_digit : 48 ≤ b → b ≤ 57 → Worth b (b - 48)
  capital-letter : 65 ≤ b → b ≤ 70 → Worth b (b - 55)
  small-letter : 97 ≤ b → b ≤ 102 → Worth b (b - 87)
  any-other : Worth b 16

pub worth : (b : ℕ) → Worth b (digit_value b)
unfolding digit_value
worth b =
    (by-test {P = Worth b} (between 48 57 b) (λ e. let t = within 48 57 b e in record { holds = decimal_digit t.0 t.1 })
    (λ e. by-test {P = Worth b} (between 65 70 b) (λ f. let t = within 65 70 b f in record { holds = capital-letter t.0 t.1 })
    (λ f. by-test {P = Worth b} (between 97 102 b) (λ g. let t = within 97 102 b g in record { holds = small-letter t.0 t.1 }) (λ g. record { holds = any-other })))
    ).holds

-- a decimal digit, by its range
pub decimal-test : (b : ℕ) → between 48 57 b ≡ is_digit 10 b
decimal-test b = by-range (between 48 57 b) refl
  where
    by-worth : {v : ℕ} → Worth b v → v ≡ digit_value b → between 48 57 b ≡ false → is_digit 10 b ≡ false
    by-worth (decimal_digit l m) e q = absurd (false≢true (sym q ∙ in-range 48 57 b l m))
    by-worth (capital-letter l m) e q = no_digit 10 b e (omega arith)
    by-worth (small-letter l m) e q = no_digit 10 b e (omega arith)
    by-worth any-other e q = no_digit 10 b e (omega arith)

    by-range : (t : Bool) → between 48 57 b ≡ t → t ≡ is_digit 10 b
    by-range true q = let r = within 48 57 b q in sym (is-digit 10 b (sym (worth-decimal b r.0 r.1)) (omega arith))
    by-range false q = sym (by-worth (worth b) refl q)

pub value-most : (b : ℕ) → digit_value b ≤ 16
value-most b = by-worth (worth b)
  where
    by-worth : {v : ℕ} → Worth b v → v ≤ 16
    by-worth (decimal_digit l m) = omega arith
    by-worth (capital-letter l m) = omega arith
    by-worth (small-letter l m) = omega arith
    by-worth any-other = omega arith

-- below `0` stands no digit of any base
pub worth-none : (b : ℕ) → b < 48 → digit_value b ≡ 16
worth-none b h = by-worth (worth b)
  where
    by-worth : {v : ℕ} → Worth b v → v ≡ 16
    by-worth (decimal_digit l m) = absurd (omega arith)
    by-worth (capital-letter l m) = absurd (omega arith)
    by-worth (small-letter l m) = absurd (omega arith)
    by-worth any-other = refl

pub none_below : (base b : ℕ) → base ≤ 16 → b < 48 → is_digit base b ≡ false
none_below base b m h = no_digit base b refl (omega (arith, worth-none b h))

-- ---- the code's arithmetic, by a look at each byte
quick : ℕ → ℕ
quick b = pick (ltb ((b + 208) % 256) 10) ((b + 208) % 256) (pick (ltb ((bit_or b 32 + 159) % 256) 6) ((bit_or b 32 + 159) % 256 + 10) 16)

quick_right : (b : ℕ) → b < 256 → quick b ≡ digit_value b
unfolding quick digit_value between pick both
quick_right b h = eqb-true _ _ (agree_below_at (λ c. eqb (quick c) (digit_value c)) (λ _. true) 256 b refl h)

pub letter-below : (b : ℕ) → b < 256 → bit_or b 32 < 256
letter-below b h = ltb-true _ _ (agree_below_at (λ c. ltb (bit_or c 32) 256) (λ _. true) 256 b refl h)

-- the two choices, inner one first
pub quick-value : (b : ℕ) {r s : ℕ} → b < 256 → s ≡ pick (ltb ((bit_or b 32 + 159) % 256) 6) ((bit_or b 32 + 159) % 256 + 10) 16
    → r ≡ pick (ltb ((b + 208) % 256) 10) ((b + 208) % 256) s → r ≡ digit_value b
unfolding quick
quick-value b {r} {s} h e f = f ∙ ap (pick (ltb ((b + 208) % 256) 10) ((b + 208) % 256)) e ∙ quick_right b h
