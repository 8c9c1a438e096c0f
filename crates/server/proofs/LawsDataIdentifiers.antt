-- Laws of service 22: how long each answer is, what is answered where an identifier is held and where it is not, and that there is room for it.
use mathlib.Core.Path.{◌≡◌, sym, ap, ◌∙◌}
use mathlib.Core.List.{List, [], ◌∷◌}
use Prim.Native.Nat.{ℕ, zero, suc, ◌+◌, ◌<◌, ◌≤◌}
use native.Mathlib.Numerals.{add-one}
use native.Mathlib.Omega.{arith}
use borrow.Author.Tests.{lt-ltb, le-ltb, eq-eqb, ltb-true, ltb-false}
use lib.Dec.{eqb, ltb}
use lib.ListN.{get_or, length, length-append, take}
use Rattle.std.specs.Prelude.{position, Option, Some, None}
use Rattle.identifiers.specs.Below.{list_below, first_below}
use Rattle.identifiers.specs.Bytes.{Puts}
use Rattle.identifiers.proofs.LawsChoice.{pick_true, pick-false}
use Rattle.identifiers.proofs.LawsBelow.{list-none, list-suc, length_more, length-mono, first-hit}
use Rattle.identifiers.proofs.LawsBytes.{keeps-length}
use Rattle.server.specs.Places.{place_among, held_among}
use Rattle.server.specs.Faults.{two_bytes}
use Rattle.server.specs.DataIdentifiers.{asked_count, asked_at, data_of, identifier_and_data, answer_to, answers_of}
use Rattle.server.specs.declared.trailer.TrailerRecord.{TrailerRecord}
use Rattle.server.proofs.LawsHeld.{place-found, place-none, whole}

ones : (g : ℕ → ℕ) (n : ℕ) → length (list_below (λ j. g j ∷ []) n) ≡ n
ones g zero = rw list-none
ones g (suc n) = rw (list-suc, length-append, ones g n) (add-one n)

module _ (t : TrailerRecord) where
  -- an identifier stands first at k
  pub record Place (identifier k : ℕ) : Type 0 where
    pub stands : place_among t.identifiers t.held identifier ≡ k
    pub within : k < t.held

  pub length-data : (k : ℕ) → length (data_of t k) ≡ get_or t.lengths k 0
  unfolding data_of
  length-data k = ones _ _

  pub length-identifier : (k : ℕ) → length (identifier_and_data t k) ≡ 2 + get_or t.lengths k 0
  unfolding identifier_and_data two_bytes
  length-identifier k = omega (arith, length-data k)

  -- an identifier that stands first at k, and one that stands nowhere
  pub answer-hit : (identifier k : ℕ) → place_among t.identifiers t.held identifier ≡ k → k < t.held → identifier_and_data t k ≡ answer_to t identifier
  unfolding answer_to held_among
  answer-hit identifier k e l = sym (pick_true _ _ (ap (λ (x : ℕ). ltb x t.held) e ∙ lt-ltb k t.held l) ∙ ap (identifier_and_data t) e)

  pub length-answer : (identifier k : ℕ) → place_among t.identifiers t.held identifier ≡ k → k < t.held → length (answer_to t identifier) ≡ 2 + get_or t.lengths k 0
  length-answer identifier k e l = ap length (sym (answer-hit identifier k e l)) ∙ length-identifier k

  pub answer-miss : (identifier : ℕ) → t.held ≤ place_among t.identifiers t.held identifier → answer_to t identifier ≡ []
  unfolding answer_to held_among
  answer-miss identifier h = pick-false _ _ (le-ltb _ _ h)

  -- an identifier that is looked for in the part that is held
  pub place-Some : {part : List ℕ} {identifier asked k : ℕ} {o : Option ℕ} → (part ≡ take t.held t.identifiers) × (length part ≡ t.held) → identifier ≡ asked → o ≡ position (λ y. eqb y identifier) part → o ≡ Some k → Place asked k
  unfolding held_among
  place-Some {part} {identifier} {asked} {k} p a e s =
      let long : length (take t.held t.identifiers) ≡ t.held = rw p.0 at p.1 in
      let f = place-found t.identifiers identifier t.held (whole t.identifiers t.held long) (sym s ∙ rw p.0 at e) in
      let within : place_among t.identifiers t.held identifier < t.held = ltb-true _ _ f.0 in
      record { stands = ap (place_among t.identifiers t.held) (sym a) ∙ f.1; within = omega (arith, f.1) }

  pub place-None : {part : List ℕ} {identifier asked : ℕ} {o : Option ℕ} → (part ≡ take t.held t.identifiers) × (length part ≡ t.held) → identifier ≡ asked → o ≡ position (λ y. eqb y identifier) part → o ≡ None → answer_to t asked ≡ []
  unfolding held_among
  place-None {part} {identifier} p a e s =
      let long : length (take t.held t.identifiers) ≡ t.held = rw p.0 at p.1 in
      ap (answer_to t) (sym a) ∙ answer-miss identifier (ltb-false _ _ (place-none t.identifiers identifier t.held (whole t.identifiers t.held long) (sym s ∙ rw p.0 at e)))

  -- a loop over the held identifiers that has found the one that is asked, and one that has passed them all
  pub found : (request : List ℕ) (j k : ℕ) {identifier : ℕ} → identifier ≡ asked_at request j → first_below (λ (m : ℕ). eqb (get_or t.identifiers m 0) identifier) k ≡ k → get_or t.identifiers k 0 ≡ identifier → k < t.held
      → identifier_and_data t k ≡ answer_to t (asked_at request j)
  unfolding place_among
  found request j k {identifier} e f h l = answer-hit identifier k (first-hit _ k t.held f (eq-eqb _ _ h) l) l ∙ ap (answer_to t) e

  pub found_none : (request : List ℕ) (j : ℕ) {identifier : ℕ} → identifier ≡ asked_at request j → first_below (λ (m : ℕ). eqb (get_or t.identifiers m 0) identifier) t.held ≡ t.held → answer_to t (asked_at request j) ≡ []
  unfolding place_among
  found_none request j {identifier} e f = ap (answer_to t) (sym e) ∙ answer-miss identifier (omega arith)

  -- there is room for one answer where there is for all of them
  pub answer-fits : (request : List ℕ) (j k start : ℕ) {at : ℕ} {before now : List ℕ} → identifier_and_data t k ≡ answer_to t (asked_at request j) → j < asked_count request
      → Puts before start (list_below (λ i. answer_to t (asked_at request i)) j) at now → start + length (answers_of t request) ≤ length before
      → at + (2 + get_or t.lengths k 0) ≤ length now
  unfolding answers_of
  answer-fits request j k start e l p h =
      let f : ℕ → List ℕ = λ i. answer_to t (asked_at request i) in
      omega (arith, p.ends, keeps-length p, ap length e, length-identifier k, length_more f j, length-mono f (j + 1) (asked_count request) (omega arith))
