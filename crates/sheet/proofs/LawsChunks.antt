-- Laws of a reading's own 17 bytes: what they say, and what is left of the sheet behind them.
use mathlib.Core.Path.{◌≡◌, sym, ap, ◌∙◌}
use mathlib.Core.List.{List, ◌++◌}
use Prim.Native.Nat.{ℕ, ◌+◌, ◌*◌, ◌≤◌}
use native.Mathlib.Omega.{arith}
use lib.ListN.{length, take, drop, length-drop, get_or-append, take-append-drop}
use lib.Seq.{drop-drop, drop_at, get_or-drop, length-take-le}
use Rattle.identifiers.proofs.LawsBelow.{list-none, list-suc}
use Rattle.sheet.specs.Readings.{readings_in, reading_of}
use Rattle.sheet.specs.Text.{line_of}
use Rattle.sheet.specs.Printed.{lines_of}

reading-behind : (s : List ℕ) (k : ℕ) → reading_of (drop (17 * k) s) 0 ≡ reading_of s k
unfolding reading_of
reading-behind s k =
    let next : 17 * k + 16 ≡ 17 * k + 15 + 1 = omega arith in
    rw (get_or-drop (17 * k) s 3 0, get_or-drop (17 * k) s 7 0, get_or-drop (17 * k) s 13 0, get_or-drop (17 * k) s 15 0, get_or-drop (17 * k) s 16 0, next)

reading-ahead : (x t : List ℕ) → length x ≡ 17 → reading_of x 0 ≡ reading_of (x ++ t) 0
unfolding reading_of
reading-ahead x t l =
    rw (get_or-append x t 0 3 (omega arith), get_or-append x t 0 7 (omega arith), get_or-append x t 0 13 (omega arith), get_or-append x t 0 15 (omega arith), get_or-append x t 0 16 (omega arith))

module _ (s x t : List ℕ) (k : ℕ) (e : drop (17 * k) s ≡ x ++ t) (l : length x ≡ 17) where
  pub chunk-reading : reading_of x 0 ≡ reading_of s k
  chunk-reading = reading-ahead x t l ∙ ap (λ z. reading_of z 0) (sym e) ∙ reading-behind s k

  pub chunk-left : t ≡ drop (17 * (k + 1)) s
  chunk-left =
      let next : 17 * k + 17 ≡ 17 * (k + 1) = omega arith in
      sym (drop_at x t 17 l) ∙ ap (drop 17) (sym e) ∙ drop-drop 17 (17 * k) s ∙ ap (λ i. drop i s) next

-- the bytes of one reading as a sheet of their own
module _ (s : List ℕ) (k m : ℕ) (e : m ≡ 17) (room : 17 * k + 17 ≤ length s) where
  long : length (take m (drop (17 * k) s)) ≡ 17
  long = length-take-le _ _ (omega (arith, e, room, length-drop (17 * k) s)) ∙ e

  pub one-behind : readings_in (take m (drop (17 * k) s)) ≡ 1
  unfolding readings_in
  one-behind = omega (arith, long)

  pub line-behind : lines_of (take m (drop (17 * k) s)) (readings_in (take m (drop (17 * k) s))) ≡ line_of (reading_of s k)
  line-behind =
      let x = take m (drop (17 * k) s) in
      ap (lines_of x) one-behind
      ∙ list-suc _ 0
      ∙ ap (λ (l : List ℕ). l ++ line_of (reading_of x 0)) (list-none _)
      ∙ ap line_of (chunk-reading s x (drop m (drop (17 * k) s)) k (sym (take-append-drop m (drop (17 * k) s))) long)
