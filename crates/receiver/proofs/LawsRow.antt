-- A node stands in twenty numbers in one way: each reception at its three places, read and stored.
use Rattle.std.proofs.Common.{◌≡◌, ℕ, zero, suc, ◌+◌, ◌*◌, ◌<◌, List, [], ◌∷◌, length, get_or, set, sym, refl, ap, ◌∙◌, arith}
use Rattle.identifiers.specs.Bytes.{written}
use Rattle.identifiers.proofs.LawsBytes.{written_behind, puts-byte, ◌▸◌}
use Rattle.receiver.specs.declared.reception.Reception.{Reception}
use Rattle.receiver.specs.Receptions.{closed, open_with}
use Rattle.receiver.specs.Nodes.{Node, reception_at, with_reception}
use Rattle.receiver.specs.Lent.{in_row, numbers_of, receptions_in, node_in}

-- ---- a row of receptions
row_back : (rs : List Reception) → receptions_in (in_row rs) ≡ rs
unfolding receptions_in in_row
row_back [] = refl
row_back (r ∷ rs) = ap (λ (l : List Reception). r ∷ l) (row_back rs)

pub node-back : (n : Node) → node_in (numbers_of n) ≡ n
unfolding node_in numbers_of
node-back n = ap (λ (l : List Reception). record { own = n.own; unit = n.unit; receptions = l }) (row_back n.receptions)

abbrev pub three : Reception → List ℕ
three r = r.length ∷ r.taken ∷ r.last ∷ []

first-written : (a b c : ℕ) (l : List ℕ) (r : Reception) → written (a ∷ b ∷ c ∷ l) 0 (three r) ≡ r.length ∷ r.taken ∷ r.last ∷ l
first-written a b c l r = sym (puts-byte (a ∷ b ∷ c ∷ l) 0 r.length ▸ puts-byte _ _ r.taken ▸ puts-byte _ _ r.last).holds

-- numbers in a row, three for each of k receptions
row-numbers : (k : ℕ) (l : List ℕ) → length l ≡ 3 * k → in_row (receptions_in l) ≡ l
unfolding receptions_in in_row
row-numbers zero [] e = refl
row-numbers zero (a ∷ l) e = absurd (omega arith)
row-numbers (suc k) [] e = absurd (omega arith)
row-numbers (suc k) (a ∷ []) e = absurd (omega arith)
row-numbers (suc k) (a ∷ b ∷ []) e = absurd (omega arith)
row-numbers (suc k) (a ∷ b ∷ c ∷ l) e = ap (λ (m : List ℕ). a ∷ b ∷ c ∷ m) (row-numbers k l (omega arith))

row_at : (k : ℕ) (l : List ℕ) → length l ≡ 3 * k → (p : ℕ) → p < k → get_or (receptions_in l) p closed ≡ open_with (get_or l (3 * p) 0) (get_or l (3 * p + 1) 0) (get_or l (3 * p + 1 + 1) 0)
unfolding receptions_in
row_at zero l e p h = absurd (omega arith)
row_at (suc k) [] e p h = absurd (omega arith)
row_at (suc k) (a ∷ []) e p h = absurd (omega arith)
row_at (suc k) (a ∷ b ∷ []) e p h = absurd (omega arith)
row_at (suc k) (a ∷ b ∷ c ∷ l) e zero h = refl
row_at (suc k) (a ∷ b ∷ c ∷ l) e (suc p) h =
    let length : 3 * suc p ≡ suc (suc (suc (3 * p))) = omega arith in
    let taken : 3 * suc p + 1 ≡ suc (suc (suc (3 * p + 1))) = omega arith in
    let last : 3 * suc p + 1 + 1 ≡ suc (suc (suc (3 * p + 1 + 1))) = omega arith in
    rw (last, taken, length) (row_at k l (omega arith) p (omega arith))

row-stored : (k : ℕ) (l : List ℕ) → length l ≡ 3 * k → (p : ℕ) → p < k → (r : Reception) → in_row (set (receptions_in l) p r) ≡ written l (3 * p) (three r)
unfolding receptions_in in_row
row-stored zero l e p h r = absurd (omega arith)
row-stored (suc k) [] e p h r = absurd (omega arith)
row-stored (suc k) (a ∷ []) e p h r = absurd (omega arith)
row-stored (suc k) (a ∷ b ∷ []) e p h r = absurd (omega arith)
row-stored (suc k) (a ∷ b ∷ c ∷ l) e zero h r = ap (λ (m : List ℕ). r.length ∷ r.taken ∷ r.last ∷ m) (row-numbers k l (omega arith)) ∙ sym (first-written a b c l r)
row-stored (suc k) (a ∷ b ∷ c ∷ l) e (suc p) h r =
    let next : 3 * suc p ≡ suc (suc (suc (3 * p))) = omega arith in
    rw next (ap (λ (m : List ℕ). a ∷ b ∷ c ∷ m) (row-stored k l (omega arith) p (omega arith) r)
    ∙ sym (written_behind a _ _ (three r) ∙ ap (λ (m : List ℕ). a ∷ m) (written_behind b _ _ (three r) ∙ ap (λ (m : List ℕ). b ∷ m) (written_behind c _ _ (three r)))))

-- ---- the twenty numbers of a node
pub numbers-back : (numbers : List ℕ) → length numbers ≡ 20 → numbers_of (node_in numbers) ≡ numbers
unfolding node_in numbers_of
numbers-back [] e = absurd (omega arith)
numbers-back (a ∷ []) e = absurd (omega arith)
numbers-back (a ∷ b ∷ l) e = ap (λ (m : List ℕ). a ∷ b ∷ m) (row-numbers 6 l (omega arith))

pub reception-in : (numbers : List ℕ) → length numbers ≡ 20 → (p : ℕ) → p < 6
    → reception_at (node_in numbers) p ≡ open_with (get_or numbers (2 + 3 * p) 0) (get_or numbers (2 + 3 * p + 1) 0) (get_or numbers (2 + 3 * p + 1 + 1) 0)
unfolding node_in reception_at
reception-in [] e p h = absurd (omega arith)
reception-in (a ∷ []) e p h = absurd (omega arith)
reception-in (a ∷ b ∷ l) e p h =
    let length : 2 + 3 * p ≡ suc (suc (3 * p)) = omega arith in
    let taken : 2 + 3 * p + 1 ≡ suc (suc (3 * p + 1)) = omega arith in
    let last : 2 + 3 * p + 1 + 1 ≡ suc (suc (3 * p + 1 + 1)) = omega arith in
    rw (last, taken, length) (row_at 6 l (omega arith) p h)

pub stored-in : (numbers : List ℕ) → length numbers ≡ 20 → (p : ℕ) → p < 6 → (r : Reception) → written numbers (2 + 3 * p) (three r) ≡ numbers_of (with_reception (node_in numbers) p r)
unfolding node_in numbers_of with_reception
stored-in [] e p h r = absurd (omega arith)
stored-in (a ∷ []) e p h r = absurd (omega arith)
stored-in (a ∷ b ∷ l) e p h r =
    let next : 2 + 3 * p ≡ suc (suc (3 * p)) = omega arith in
    rw next (written_behind a _ _ (three r) ∙ ap (λ (m : List ℕ). a ∷ m) (written_behind b _ _ (three r) ∙ ap (λ (m : List ℕ). b ∷ m) (sym (row-stored 6 l (omega arith) p h r))))
