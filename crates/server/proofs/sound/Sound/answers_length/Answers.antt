-- `answers_length` meets its contract: the total so far is the length of what is answered to those passed.
use mathlib.Core.Path.{◌≡◌, ap, ◌∙◌}
use mathlib.Core.List.{List, []}
use Prim.Native.Nat.{ℕ, ◌+◌}
use native.Mathlib.Omega.{arith}
use lib.ListN.{get_or, length}
use Rattle.identifiers.specs.Below.{list_below}
use Rattle.identifiers.proofs.LawsBelow.{list-none, length_more}
use Rattle.server.specs.DataIdentifiers.{asked_count, asked_at, answer_to, answers_of}
use Rattle.server.specs.declared.trailer.TrailerRecord.{TrailerRecord}
use Rattle.server.proofs.LawsTrailer.{sound-has}
use Rattle.server.proofs.LawsDataIdentifiers.{Place, place-Some, place-None, length-answer}
use Rattle.server.proofs.sound.Sound.answers_length.Goals as goal
use Rattle.server.proofs.sound.Sound.answers_length.Goals.{in-Some, in_default}

-- what the answer to the one that is asked at j adds, where it is held at k and where it is not
module _ (t : TrailerRecord) (request : List ℕ) (j : ℕ) where
  abbrev below : ℕ → List ℕ
  below = list_below (λ i. answer_to t (asked_at request i))

  more : length (below (j + 1)) ≡ length (below j) + length (answer_to t (asked_at request j))
  more = length_more (λ i. answer_to t (asked_at request i)) j

  hit : {k : ℕ} → Place t (asked_at request j) k → length (below (j + 1)) ≡ length (below j) + (2 + get_or t.lengths k 0)
  hit p = more ∙ ap (λ (n : ℕ). length (below j) + n) (length-answer t _ _ p.stands p.within)

  miss : answer_to t (asked_at request j) ≡ [] → length (below (j + 1)) ≡ length (below j)
  miss e = more ∙ omega (arith, ap length e)

pub loop-j-init : goal.loop-j-init
loop-j-init c = (omega arith, rw (list-none _))

pub bounds-self-k : goal.bounds-self-k
bounds-self-k c =
    let p = place-Some c.args.self.now.record.now c.identifiers-identifiers.ensures c.asked.ensures c.place_of.ensures c.in-Some.is in
    omega (arith, p.within, (sound-has _ c.args.self.now.sound).held)

pub loop-j-preserved : goal.loop-j-preserved
loop-j-preserved c =
    let t = c.args.self.now.record.now in
    let l = c.loop-j in
    elim c.match-place_of.branch [
      | in-Some w ↦
          let p = place-Some t c.identifiers-identifiers.ensures c.asked.ensures c.place_of.ensures w.in-Some.is in
          (omega (arith, w.total-is), omega (arith, w.total-is, l.invariant.1, hit t c.args.request.bytes.now l.j p))
      | in_default w ↦
          let e = place-None t c.identifiers-identifiers.ensures c.asked.ensures c.place_of.ensures w.in_default.is in
          (omega (arith, w.total-is), omega (arith, w.total-is, l.invariant.1, miss t c.args.request.bytes.now l.j e))
    ]

pub returns : goal.returns
unfolding answers_of asked_count
returns c = let e : asked_count c.args.request.bytes.now ≡ c.loop-j.j = omega arith in rw e c.loop-j.invariant.1
