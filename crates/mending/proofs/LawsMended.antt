-- What mending answers: refused, or both texts put; and that each text has room in its array.
use mathlib.Core.Path.{◌≡◌, refl, sym, ap, ap₂, ◌∙◌}
use mathlib.Core.Bool.{true, false}
use mathlib.Core.List.{List, []}
use Prim.Native.Nat.{ℕ, ◌+◌, ◌-◌, ◌≤◌, ◌<◌}
use native.Mathlib.Nat.{zero-add}
use native.Mathlib.Omega.{arith}
use borrow.Author.Tests.{ltb-true, ltb-false, lt-ltb, le-ltb}
use lib.ListN.{length, take, drop}
use Rattle.std.specs.Prelude.{Ok, Err}
use Rattle.identifiers.specs.Bytes.{Puts}
use Rattle.identifiers.specs.Refusals.{refusal}
use Rattle.identifiers.proofs.LawsChoice.{taken, passed, pick-false, was-taken, was-passed}
use Rattle.identifiers.specs.declared.refusal.Refusal.{Refusal}
use Rattle.sheet.specs.Text.{page_size}
use Rattle.mending.specs.Pieces.{begins, pieces, joined, kept_of, mended}
use Rattle.mending.specs.Listed.{stretch_text, lines_from, stretch_lines}
use Rattle.mending.specs.Mended.{too_long, mended_as, Mends}
use Rattle.mending.specs.declared.mended.Mended.{Mended}
use Rattle.mending.proofs.LawsWalked.{walked}
use Rattle.mending.proofs.LawsKept.{kept-length}
use Rattle.mending.proofs.LawsListed.{lines_fit}
use Rattle.mending.proofs.LawsLeft.{left-room, left-put, left-none}
use Rattle.mending.proofs.LawsGoing.{ahead, Going, kept_next, lines_next, kept-last, list-last}

pub too-long : (s : List ℕ) → 65535 < length s → too_long s ≡ true
unfolding too_long
too-long s l = lt-ltb _ _ l

pub not-too-long : (s : List ℕ) → length s ≤ 65535 → too_long s ≡ false
unfolding too_long
not-too-long s l = le-ltb _ _ l

pub pieces-joined : (s : List ℕ) → joined (pieces s) ≡ s
unfolding pieces
pieces-joined s = (walked [] s).whole

pub mended-length : (s : List ℕ) → length (mended s) ≤ length s
unfolding mended
mended-length s = omega (arith, kept-length (pieces s), ap length (pieces-joined s))

-- ---- refused: nothing is written
pub mends-not : (s kept page : List ℕ) → 65535 < length s → (Err (refusal 21) ≡ mended_as s) × Mends s kept page kept page
unfolding mended_as
mends-not s kept page l = let e = too-long s l in (taken _ e refl, record { keeps = taken _ e refl; lists = taken _ e refl })

-- ---- room
module _ {s kept₀ page₀ kept page : List ℕ} {at start end listed : ℕ} (g : Going s kept₀ page₀ kept page at start end listed) (l : length s ≤ 65535) where
  pub kept-room : length kept₀ ≡ 65535 → begins (drop at s) ≡ true → end + length (take 17 (drop at s)) ≤ length kept
  kept-room h e = left-room g.keeps (take 17 (drop at s)) (kept_of (ahead s (at + 17) (at + 17))) (omega (arith, mended-length s)) (kept_next g e)

  pub list-room : length page₀ ≡ page_size → begins (drop at s) ≡ true → listed + length (stretch_text start (at - start)) ≤ length page
  list-room h e = left-room g.lists (stretch_text start (at - start)) (lines_from (at + 17) (ahead s (at + 17) (at + 17))) (omega (arith, lines_fit s l)) (lines_next g e)

  pub last-room : length page₀ ≡ page_size → length s ≤ at → listed + length (stretch_text start (at - start)) ≤ length page
  last-room h m = left-room g.lists (stretch_text start (at - start)) [] (omega (arith, lines_fit s l)) (list-last g m)

  -- ---- both texts put
  pub all-kept : length s ≤ at → Puts kept₀ 0 (mended s) end kept
  all-kept m = left-none g.keeps (kept-last g m)

  pub all_listed : {page₁ : List ℕ} {listed₁ : ℕ} → length s ≤ at → Puts page listed (stretch_text start (at - start)) listed₁ page₁ → Puts page₀ 0 (stretch_lines s) listed₁ page₁
  all_listed m p = left-none (left-put g.lists [] (list-last g m) p) refl

pub mends-both : {s kept₀ page₀ kept page : List ℕ} {end listed : ℕ} → length s ≤ 65535 → Puts kept₀ 0 (mended s) end kept → Puts page₀ 0 (stretch_lines s) listed page
    → (Ok (record { kept = end; listed = listed }) ≡ mended_as s) × Mends s kept₀ page₀ kept page
unfolding mended_as
mends-both {s} l p q =
    let e = not-too-long s l in
    (passed _ e (ap₂ (λ (k l : ℕ). Ok (record { kept = k; listed = l })) (p.ends ∙ zero-add _) (q.ends ∙ zero-add _)), record { keeps = passed _ e p.holds; lists = passed _ e q.holds })

-- ---- what the answer says of the arrays
pub answered-refused : (s : List ℕ) (why : Refusal) → mended_as s ≡ Err why → (why ≡ refusal 21) × (65535 < length s)
unfolding mended_as too_long
answered-refused s why e =
    let h = was-taken _ _ _ _ (λ (f : Ok (record { kept = length (mended s); listed = length (stretch_lines s) }) ≡ Err why). cc) e in
    let same : Err (refusal 21) ≡ Err why = h.1 in
    let w : why ≡ refusal 21 = cc in
    (w, ltb-true _ _ h.0)

pub answered-written : {s kept₀ page₀ kept page : List ℕ} (done : Mended) → mended_as s ≡ Ok done → Mends s kept₀ page₀ kept page
    → (length s ≤ 65535) × (Puts kept₀ 0 (mended s) done.kept kept × Puts page₀ 0 (stretch_lines s) done.listed page)
unfolding mended_as too_long
answered-written {s} done e m =
    let h = was-passed _ _ _ _ (λ (f : Err (refusal 21) ≡ Ok done). cc) e in
    let same : ◌≡◌ {A = Mended} (record { kept = length (mended s); listed = length (stretch_lines s) }) done = cc in
    let k : done.kept ≡ length (mended s) = sym (ap (λ (d : Mended). d.kept) same) in
    let l : done.listed ≡ length (stretch_lines s) = sym (ap (λ (d : Mended). d.listed) same) in
    (ltb-false _ _ h.0, (record { ends = omega arith; holds = m.keeps ∙ pick-false _ _ h.0 }, record { ends = omega arith; holds = m.lists ∙ pick-false _ _ h.0 }))
