-- Laws of the fault codes: what is listed and how long it is, and what is stored.
use mathlib.Core.Path.{◌≡◌, refl, sym, ap, ◌∙◌}
use mathlib.Core.Bool.{Bool, true, false, not}
use mathlib.Core.List.{List, [], ◌∷◌, ◌++◌}
use mathlib.Core.Logic.{◌≢◌, ◌↔◌, ⊎_elim}
use Prim.Native.Nat.{ℕ, zero, suc, ◌+◌, ◌*◌, ◌<◌, ◌≤◌}
use native.Mathlib.Nat.{eq-or-lt_of_le}
use native.Mathlib.Numerals.{add-one}
use native.Mathlib.Omega.{arith}
use borrow.Author.Tests.{eqb-false, ne_eqb, not-true}
use lib.Bits.{bit_and}
use lib.ListN.{get_or, set, length, length-append, take, drop, replicate}
use Rattle.identifiers.specs.Choice.{pick, either}
use Rattle.identifiers.specs.Below.{count_below, list_below}
use Rattle.identifiers.proofs.LawsChoice.{taken, pick-false}
use Rattle.identifiers.proofs.LawsBelow.{count_none, count-suc, count-le, list-none, list-suc}
use Rattle.server.specs.Faults.{matches, listed, count_listed, code_and_status, reported, report_of, stored_below}
use Rattle.server.specs.declared.trailer.TrailerRecord.{TrailerRecord}
use Rattle.server.proofs.LawsHeld.{held-count, whole}

-- "Match: status AND mask is not 0."
pub matches-exactly : (status mask : ℕ) → matches status mask ≡ true ↔ (bit_and status mask ≢ 0)
unfolding matches
matches-exactly status mask = (λ e. eqb-false _ _ (not-true _ e), λ n. ap not (ne_eqb _ _ n))

pub reported-hit : (all : Bool) (mask code status : ℕ) → listed all mask status ≡ true → code_and_status code status ≡ reported all mask code status
unfolding reported
reported-hit all mask code status e = taken _ e refl

pub reported-miss : (all : Bool) (mask code status : ℕ) → listed all mask status ≡ false → reported all mask code status ≡ []
unfolding reported
reported-miss all mask code status e = pick-false _ _ e

-- a report has four bytes for each code that is listed
four : (all : Bool) (mask code status m : ℕ) → 4 * m + length (reported all mask code status) ≡ 4 * pick (listed all mask status) (m + 1) m
unfolding reported code_and_status pick
four all mask code status m = by (listed all mask status)
  where
    by : (b : Bool) → 4 * m + length (pick b (code_and_status code status) []) ≡ 4 * pick b (m + 1) m
    by true = omega arith
    by false = omega arith

length-below : (codes statuses : List ℕ) (all : Bool) (mask n : ℕ)
    → length (list_below (λ i. reported all mask (get_or codes i 0) (get_or statuses i 0)) n) ≡ 4 * count_below (λ i. listed all mask (get_or statuses i 0)) n
length-below codes statuses all mask zero = rw (list-none, count_none)
length-below codes statuses all mask (suc n) = rw (list-suc, count-suc, length-append, length-below codes statuses all mask n) (four _ _ _ _ _)

pub length-report : (t : TrailerRecord) (all : Bool) (mask : ℕ) → length (report_of t all mask) ≡ 4 * count_listed t all mask
unfolding report_of count_listed
length-report t all mask = length-below t.codes t.statuses all mask t.count

-- what is counted in the part that is held
pub counted : (t : TrailerRecord) (all : Bool) (mask : ℕ) {part : List ℕ} {n : ℕ} → (part ≡ take t.count t.statuses) × (length part ≡ t.count) → n ≡ count_below (λ i. listed all mask (get_or part i 0)) (length part) → n ≡ count_listed t all mask
unfolding count_listed
counted t all mask {part} {n} p e =
    let long : length (take t.count t.statuses) ≡ t.count = rw p.0 at p.1 in
    rw (p.1, p.0) at e ∙ held-count t.statuses (listed all mask) t.count (whole t.statuses t.count long)

-- a report of all lists every code that is held
all-below : (statuses : List ℕ) (mask n : ℕ) → count_below (λ i. listed true mask (get_or statuses i 0)) n ≡ n
unfolding listed either pick
all-below statuses mask zero = count_none _
all-below statuses mask (suc n) = rw (count-suc, all-below statuses mask n) (omega arith)

pub every-listed : (t : TrailerRecord) (mask : ℕ) → count_listed t true mask ≡ t.count
unfolding count_listed
every-listed t mask = all-below t.statuses mask t.count

pub count-listed-le : (t : TrailerRecord) (all : Bool) (mask : ℕ) → count_listed t all mask ≤ t.count
unfolding count_listed
count-listed-le t all mask = count-le _ t.count

-- one element more of a row
row : (n a : ℕ) (l : List ℕ) → n < length l → set (replicate n a ++ drop n l) n a ≡ replicate (suc n) a ++ drop (suc n) l
row n a [] h = absurd (omega (arith, h))
row zero a (x ∷ l) h = refl
row (suc n) a (x ∷ l) h = ap (λ (xs : List ℕ). a ∷ xs) (row n a l (omega (arith, h)))

-- ---- one status stored at the places that have p
module _ (p : ℕ → Bool) (status : ℕ) (statuses : List ℕ) where
  pub stored-none : stored_below p status statuses 0 ≡ statuses
  unfolding stored_below
  stored-none = refl

  pub stored-hit : (n : ℕ) → p n ≡ true → set (stored_below p status statuses n) n status ≡ stored_below p status statuses (n + 1)
  unfolding stored_below pick
  stored-hit n e = rw (add-one n, e)

  -- nothing is stored where no place has p, and one status where one place has it
  pub stored-nowhere : (n : ℕ) → ((i : ℕ) → i < n → p i ≡ false) → statuses ≡ stored_below p status statuses n
  unfolding stored_below pick
  stored-nowhere zero h = refl
  stored-nowhere (suc n) h = rw (h n (omega arith)) (stored-nowhere n (λ i l. h i (omega arith)))

  pub stored-once : (n place : ℕ) → place < n → p place ≡ true → ((i : ℕ) → i < place → p i ≡ false) → ((i : ℕ) → place < i → i < n → p i ≡ false) → set statuses place status ≡ stored_below p status statuses n
  unfolding stored_below pick
  stored-once zero place l e before behind = absurd (omega arith)
  stored-once (suc n) place l e before behind =
      ⊎_elim (λ (q : place ≡ n). rw (ap p (sym q) ∙ e, q) (ap (λ (xs : List ℕ). set xs n status) (stored-nowhere n (λ i m. before i (omega arith)))))
      (λ (q : place < n). rw (behind n q (omega arith)) (stored-once n place q e before (λ i m o. behind i m (omega arith)))) (eq-or-lt_of_le (omega arith))

  -- and a row of it where each of them has it
  pub stored-everywhere : (n : ℕ) → n ≤ length statuses → ((i : ℕ) → i < n → p i ≡ true) → replicate n status ++ drop n statuses ≡ stored_below p status statuses n
  stored-everywhere zero l h = sym stored-none
  stored-everywhere (suc n) l h =
      sym (row n status statuses (omega (arith, l))) ∙ ap (λ (xs : List ℕ). set xs n status) (stored-everywhere n (omega (arith, l)) (λ i m. h i (omega (arith, m)))) ∙ stored-hit n (h n (omega arith)) ∙ ap (stored_below p status statuses) (add-one n)
