-- What a clear does, place by place and by one place, and that the rules of a record outlive a clear and a setting.
use mathlib.Core.Path.{◌≡◌, refl, sym, ap, ◌∙◌}
use mathlib.Core.Bool.{Bool, true, false, false≢true}
use mathlib.Core.Logic.{◌≢◌, ◌⊎◌, inl, inr, ⊎_elim}
use mathlib.Core.List.{List, [], ◌∷◌, ◌++◌}
use Prim.Native.Nat.{ℕ, zero, suc, ◌<◌, ◌≤◌}
use native.Mathlib.Nat.{eq-or-lt_of_le}
use native.Mathlib.Omega.{arith}
use borrow.Author.Tests.{eq-eqb, ne_eqb}
use lib.Bits.{bit_and, and_self}
use lib.ListN.{get_or, set, length, length-set, drop, replicate}
use lib.Seq.{get_or-set_same, get_or-set_other}
use Rattle.identifiers.specs.Choice.{pick}
use Rattle.identifiers.proofs.LawsChoice.{left-holds, right-holds, right-decides}
use Rattle.identifiers.proofs.LawsBelow.{all-at, all-each}
use Rattle.server.specs.Places.{place_among, held_among}
use Rattle.server.specs.Trailer.{ascending, codes_below, status_within, statuses_within, lengths_within, sound_record, with_statuses}
use Rattle.server.specs.Faults.{in_group, stored_below, cleared_of}
use Rattle.server.specs.declared.trailer.TrailerRecord.{TrailerRecord}
use Rattle.server.proofs.LawsMask.{and_assoc}
use Rattle.server.proofs.LawsPlaces.{held_at, not-held}
use Rattle.server.proofs.LawsFaults.{stored-nowhere, stored-once, stored-everywhere}
use Rattle.server.proofs.LawsTrailer.{ascend-apart, sound-has, sound-from}

-- ---- a mask that is applied twice
pub mask-twice : (a m : ℕ) → bit_and (bit_and a m) m ≡ bit_and a m
mask-twice a m = and_assoc a m m ∙ ap (bit_and a) (and_self m)

-- ---- one status stored at the places that have p
turn-other : (b : Bool) (xs : List ℕ) (n i status : ℕ) → (i ≡ n → b ≡ false) → get_or (pick b (set xs n status) xs) i 0 ≡ get_or xs i 0
unfolding pick
turn-other true xs n i status h = get_or-set_other xs n i status 0 (λ q. false≢true (sym (h q)))
turn-other false xs n i status h = refl

turn-length : (b : Bool) (xs : List ℕ) (n status : ℕ) → length (pick b (set xs n status) xs) ≡ length xs
unfolding pick
turn-length true xs n status = length-set xs n status
turn-length false xs n status = refl

module _ (p : ℕ → Bool) (status : ℕ) (statuses : List ℕ) where
  stored_other : (n i : ℕ) → (i < n → p i ≡ false) → get_or (stored_below p status statuses n) i 0 ≡ get_or statuses i 0
  unfolding stored_below
  stored_other zero i h = refl
  stored_other (suc n) i h = turn-other (p n) (stored_below p status statuses n) n i status (λ q. ap p (sym q) ∙ h (omega arith)) ∙ stored_other n i (λ l. h (omega arith))

  pub stored_past : (n i : ℕ) → n ≤ i → get_or (stored_below p status statuses n) i 0 ≡ get_or statuses i 0
  stored_past n i l = stored_other n i (λ h. absurd (omega arith))

  pub stored-else : (n i : ℕ) → p i ≡ false → get_or (stored_below p status statuses n) i 0 ≡ get_or statuses i 0
  stored-else n i e = stored_other n i (λ h. e)

  pub length-stored : (n : ℕ) → length (stored_below p status statuses n) ≡ length statuses
  unfolding stored_below
  length-stored zero = refl
  length-stored (suc n) = turn-length (p n) (stored_below p status statuses n) n status ∙ length-stored n

  stored_last : (n : ℕ) → n < length statuses → p n ≡ true → get_or (stored_below p status statuses (suc n)) n 0 ≡ status
  unfolding stored_below pick
  stored_last n r e = rw e (get_or-set_same (stored_below p status statuses n) n status 0 (rw length-stored r))

  pub stored-in : (n i : ℕ) → i < n → i < length statuses → p i ≡ true → get_or (stored_below p status statuses n) i 0 ≡ status
  unfolding stored_below
  stored-in zero i l r e = absurd (omega arith)
  stored-in (suc n) i l r e =
      ⊎_elim (λ (q : i ≡ n). rw q (stored_last n (omega arith) (ap p (sym q) ∙ e)))
      (λ (q : i < n). turn-other (p n) (stored_below p status statuses n) n i status (λ z. absurd (omega arith)) ∙ stored-in n i q r e) (eq-or-lt_of_le (omega arith))

-- ---- a clear: past the count and outside the group as before, within it the status of a clear
module _ (t : TrailerRecord) (group : ℕ) where
  pub cleared-past : (i : ℕ) → t.count ≤ i → get_or (cleared_of t group) i 0 ≡ get_or t.statuses i 0
  unfolding cleared_of
  cleared-past = stored_past _ _ _ t.count

  pub cleared-else : (i : ℕ) → in_group group (get_or t.codes i 0) ≡ false → get_or (cleared_of t group) i 0 ≡ get_or t.statuses i 0
  unfolding cleared_of
  cleared-else = stored-else _ _ _ t.count

  pub cleared-in : (i : ℕ) → i < t.count → i < length t.statuses → in_group group (get_or t.codes i 0) ≡ true → get_or (cleared_of t group) i 0 ≡ bit_and 0x50 t.availability
  unfolding cleared_of
  cleared-in = stored-in _ _ _ t.count

  pub length-cleared : length (cleared_of t group) ≡ length t.statuses
  unfolding cleared_of
  length-cleared = length-stored _ _ _ t.count

-- ---- a group that is one code: of codes that ascend one place has it, or none
module _ (codes : List ℕ) (count group status : ℕ) (statuses : List ℕ) (one : group ≢ 0xFFFFFF) where
  other : (code : ℕ) → code ≢ group → in_group group code ≡ false
  unfolding in_group
  other code n = sym (right-decides (ne_eqb _ _ one) (sym (ne_eqb _ _ n)))

  pub group_at : ascending codes count ≡ true → held_among codes count group ≡ true → set statuses (place_among codes count group) status ≡ stored_below (λ i. in_group group (get_or codes i 0)) status statuses count
  unfolding in_group
  group_at a e =
      let at = held_at codes count group e in
      stored-once _ _ _ count _ at.0 (sym (right-holds _ (eq-eqb _ _ at.1)))
      (λ i l. other _ (λ q. absurd (omega (arith, at.1, ascend-apart codes count i (place_among codes count group) a l at.0))))
      (λ i l m. other _ (λ q. absurd (omega (arith, at.1, ascend-apart codes count (place_among codes count group) i a l m))))

  pub group-nowhere : held_among codes count group ≡ false → statuses ≡ stored_below (λ i. in_group group (get_or codes i 0)) status statuses count
  group-nowhere e = stored-nowhere _ _ _ count (λ i l. other _ (not-held codes count group e i l))

-- ---- the group of all
pub group-everywhere : (codes : List ℕ) (count group status : ℕ) (statuses : List ℕ) → group ≡ 0xFFFFFF → count ≤ length statuses → replicate count status ++ drop count statuses ≡ stored_below (λ i. in_group group (get_or codes i 0)) status statuses count
unfolding in_group
group-everywhere codes count group status statuses e l = stored-everywhere _ status statuses count l (λ i m. sym (left-holds _ (eq-eqb _ _ e)))

-- ---- the rules outlive a clear and a setting
-- an element after a store is what it was, or what was stored
set-either : (l : List ℕ) (i j a : ℕ) → (get_or (set l i a) j 0 ≡ get_or l j 0) ⊎ (get_or (set l i a) j 0 ≡ a)
set-either [] i j a = inl refl
set-either (x ∷ l) zero zero a = inr refl
set-either (x ∷ l) zero (suc j) a = inl refl
set-either (x ∷ l) (suc i) zero a = inl refl
set-either (x ∷ l) (suc i) (suc j) a = set-either l i j a

-- every status is as it was, or the one that is given
pub record EitherWay (after statuses : List ℕ) (status : ℕ) : Type 0 where
  pub at : (i : ℕ) → (get_or after i 0 ≡ get_or statuses i 0) ⊎ (get_or after i 0 ≡ status)

pub set-way : (statuses : List ℕ) (place status : ℕ) → EitherWay (set statuses place status) statuses status
set-way statuses place status = record { at = λ i. set-either statuses place i status }

turn-way : (b : Bool) (xs statuses : List ℕ) (n status : ℕ) → EitherWay xs statuses status → EitherWay (pick b (set xs n status) xs) statuses status
unfolding pick
turn-way false xs statuses n status h = h
turn-way true xs statuses n status h = record { at = λ i. ⊎_elim (λ p. ⊎_elim (λ q. inl (p ∙ q)) (λ q. inr (p ∙ q)) (h.at i)) (λ p. inr p) (set-either xs n i status) }

stored-way : (p : ℕ → Bool) (status : ℕ) (statuses : List ℕ) (n : ℕ) → EitherWay (stored_below p status statuses n) statuses status
unfolding stored_below
stored-way p status statuses zero = record { at = λ i. inl refl }
stored-way p status statuses (suc n) = turn-way (p n) _ statuses n status (stored-way p status statuses n)

pub clear-way : (t : TrailerRecord) (group : ℕ) → EitherWay (cleared_of t group) t.statuses (bit_and 0x50 t.availability)
unfolding cleared_of
clear-way t group = stored-way _ _ t.statuses t.count

module _ (t : TrailerRecord) where
  pub within-way : {after : List ℕ} (status : ℕ) → EitherWay after t.statuses status → status_within t.availability status ≡ true → statuses_within t ≡ true → statuses_within (with_statuses t after) ≡ true
  unfolding statuses_within
  within-way status w e h =
      all-each _ t.count (λ i l. ⊎_elim (λ p. ap (status_within t.availability) p ∙ all-at _ i t.count h l) (λ p. ap (status_within t.availability) p ∙ e) (w.at i))

  -- a record that keeps its rules keeps them with other statuses that have no bit outside the mask
  pub sound-with : (statuses : List ℕ) → sound_record t ≡ true → statuses_within (with_statuses t statuses) ≡ true → sound_record (with_statuses t statuses) ≡ true
  unfolding codes_below lengths_within
  sound-with statuses e h =
      let s = sound-has t e in
      sound-from _ (record { count = s.count; held = s.held; mask = s.mask; codes = s.codes; ascend = s.ascend; statuses = h; identifiers = s.identifiers; lengths = s.lengths })

pub cleared-within : (availability : ℕ) → status_within availability (bit_and 0x50 availability) ≡ true
unfolding status_within
cleared-within availability = eq-eqb _ _ (mask-twice 0x50 availability)
