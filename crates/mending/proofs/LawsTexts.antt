-- What the program writes: both arrays up to their answered ends, or the count sheet's line of the refusal.
use mathlib.Core.Path.{◌≡◌, sym, ◌∙◌}
use mathlib.Core.List.{List}
use Prim.Native.Nat.{ℕ, ◌≤◌, ◌<◌}
use native.Mathlib.Omega.{arith}
use lib.ListN.{length, take}
use Rattle.std.specs.Prelude.{Ok}
use Rattle.identifiers.specs.Bytes.{Puts}
use Rattle.identifiers.specs.Choice.{pick}
use Rattle.identifiers.proofs.LawsBytes.{keeps-length, puts_whole}
use Rattle.identifiers.proofs.LawsChoice.{taken, pick-false}
use Rattle.identifiers.specs.Refusals.{refusal}
use Rattle.sheet.specs.Text.{page_size, refusal_line}
use Rattle.sheet.specs.Printed.{printed}
use Rattle.sheet.proofs.LawsSheets.{sheet-21}
use Rattle.sheet.proofs.LawsPrinted.{printed-refused}
use Rattle.mending.specs.Mended.{too_long, mended_as, Mends, sheet_text, list_text}
use Rattle.mending.specs.declared.mended.Mended.{Mended}
use Rattle.mending.proofs.LawsListed.{lines_fit}
use Rattle.mending.proofs.LawsMended.{too-long, not-too-long, mended-length, answered-written}

-- an array up to an end that lies in it is a text
pub record Stands (text array : List ℕ) (end : ℕ) : Type 0 where
  pub within : end ≤ length array
  pub whole : take end array ≡ text

-- what was put from the start on, where it fits and the input is not refused
put-stands : {array after text : List ℕ} {end : ℕ} (s line : List ℕ) → length s ≤ 65535 → length text ≤ length array → Puts array 0 text end after
    → Stands (pick (too_long s) line text) after end
put-stands s line short fits p =
    record { within = omega (arith, p.ends, keeps-length p); whole = puts_whole fits p ∙ sym (pick-false _ _ (not-too-long s short)) }

module _ {s kept₀ page₀ kept page : List ℕ} (done : Mended) (e : mended_as s ≡ Ok done) (m : Mends s kept₀ page₀ kept page) where
  pub sheet-stands : length kept₀ ≡ 65535 → Stands (sheet_text s) kept done.kept
  unfolding sheet_text
  sheet-stands k = let h = answered-written done e m in put-stands s (refusal_line 21 0) h.0 (omega (arith, mended-length s, h.0)) h.1.0

  pub list-stands : length page₀ ≡ page_size → Stands (list_text s) page done.listed
  unfolding list_text
  list-stands l = let h = answered-written done e m in put-stands s (refusal_line 21 0) h.0 (omega (arith, lines_fit s h.0)) h.1.1

-- too long: the count sheet prints the line
pub refused-text : (s : List ℕ) → 65535 < length s → (printed s ≡ sheet_text s) × (printed s ≡ list_text s)
unfolding sheet_text list_text
refused-text s l =
    let line = printed-refused s (refusal 21) 0 (sheet-21 s l) in
    let long = too-long s l in
    (taken _ long line, taken _ long line)
