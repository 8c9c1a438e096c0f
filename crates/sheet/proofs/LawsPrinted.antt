-- Laws of the whole text: what an accepted and a refused input print, and that it fits the page.
use Rattle.std.specs.Prelude.{Ok, Err}
use mathlib.Core.Path.{◌≡◌, refl, ap}
use mathlib.Core.List.{List, ◌++◌}
use Prim.Native.Nat.{ℕ, zero, suc, ◌*◌, ◌≤◌}
use native.Mathlib.Omega.{arith}
use lib.ListN.{length, length-append, take}
use Rattle.identifiers.specs.Bytes.{Puts}
use Rattle.identifiers.specs.Refusals.{number_of}
use Rattle.identifiers.proofs.LawsBelow.{list-none, list-suc}
use Rattle.identifiers.proofs.LawsBytes.{keeps-length, puts_whole}
use Rattle.text.specs.Digits.{decimal_in, hex, blank}
use Rattle.text.proofs.LawsDigits.{length-decimal-in, length-hex}
use Rattle.sheet.specs.Fields.{SheetRead, refused_at}
use Rattle.sheet.specs.Basis.{basis_of}
use Rattle.sheet.specs.Sheets.{sheet_read}
use Rattle.sheet.specs.Readings.{readings_in, reading_of}
use Rattle.sheet.specs.Text.{page_size, header, word_of, numbers_of, line_of, refusal_line}
use Rattle.sheet.specs.Printed.{lines_of, printed_as, printed}
use Rattle.identifiers.specs.declared.refusal.Refusal.{Refusal}
use Rattle.sheet.specs.declared.basis.Basis.{Basis}
use Rattle.sheet.specs.declared.basis.Basis.TheVariants.{None, Full, Part}
use Rattle.sheet.specs.declared.reading.CountReading.{CountReading}
use Rattle.sheet.proofs.LawsSheets.{accepted-short}

pub printed-accepted : (s : List ℕ) → sheet_read s ≡ Ok tt → printed s ≡ header ++ lines_of s (readings_in s)
unfolding printed printed_as
printed-accepted s e = rw e

pub printed-refused : (s : List ℕ) (why : Refusal) (o : ℕ) → sheet_read s ≡ refused_at why o → printed s ≡ refusal_line (number_of why) o
unfolding printed printed_as
printed-refused s why o e = rw e

-- ---- how long the parts of a text are
pub length-word : (b : Basis) → length (word_of b) ≡ 4
unfolding word_of
length-word None = refl
length-word Full = refl
length-word Part = refl

-- a number or a mask, and its blank
pub length-number : (n : ℕ) → length (decimal_in 5 n ++ blank) ≤ 6
length-number n = omega (arith, length-append (decimal_in 5 n) blank, length-decimal-in 5 n)

pub length-mask : (n : ℕ) → length (hex n ++ blank) ≤ 3
length-mask n = omega (arith, length-append (hex n) blank, length-hex n)

pub length-numbers : (r : CountReading) → length (numbers_of r) ≤ 18
unfolding numbers_of
length-numbers r = simp length-append (omega (arith, length-decimal-in 5 r.position, length-hex r.mask, length-hex r.available, length-decimal-in 5 r.count))

pub length-line : (r : CountReading) → length (line_of r) ≤ 23
unfolding line_of
length-line r = simp length-append (omega (arith, length-numbers r, length-word (basis_of r.mask r.available)))

pub length-lines : (s : List ℕ) (n : ℕ) → length (lines_of s n) ≤ 23 * n
length-lines s zero = omega (arith, ap length (list-none (λ k. line_of (reading_of s k))))
length-lines s (suc n) =
    omega (arith, ap length (list-suc (λ k. line_of (reading_of s k)) n), length-append (lines_of s n) (line_of (reading_of s n)), length-lines s n, length-line (reading_of s n))

pub length-refusal : (n o : ℕ) → length (refusal_line n o) ≤ 23
unfolding refusal_line
length-refusal n o = simp length-append (omega (arith, length-decimal-in 5 n, length-decimal-in 5 o))

-- ---- the page
pub printed-fits : (s : List ℕ) → length (printed s) ≤ page_size
unfolding readings_in
printed-fits s = by_answer (sheet_read s) refl
  where
    by_answer : (v : SheetRead) → sheet_read s ≡ v → length (printed s) ≤ page_size
    by_answer (Ok _) e =
        omega (arith, ap length (printed-accepted s e), length-append header (lines_of s (readings_in s)), length-lines s (readings_in s), accepted-short s e)
    by_answer (Err r) e = omega (arith, ap length (printed-refused s r.refusal r.offset e), length-refusal (number_of r.refusal) r.offset)

-- of a text that fits the page: the place after its last byte lies in the page, and the page up to there is the text, no more and no less
pub text-fits : {page after text : List ℕ} {end : ℕ} → length text ≤ page_size → length page ≡ page_size → Puts page 0 text end after → end ≤ length after
text-fits l h p = omega (arith, p.ends, keeps-length p)

pub text-whole : {page after text : List ℕ} {end : ℕ} → length text ≤ page_size → length page ≡ page_size → Puts page 0 text end after → take end after ≡ text
text-whole l h p = puts_whole (omega arith) p

pub print-fits : {page after : List ℕ} {end : ℕ} (s : List ℕ) → length page ≡ page_size → Puts page 0 (printed s) end after → end ≤ length after
print-fits s = text-fits (printed-fits s)

pub print-whole : {page after : List ℕ} {end : ℕ} (s : List ℕ) → length page ≡ page_size → Puts page 0 (printed s) end after → take end after ≡ printed s
print-whole s = text-whole (printed-fits s)
