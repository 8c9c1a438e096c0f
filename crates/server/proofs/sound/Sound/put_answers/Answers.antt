-- `put_answers` meets its contract: what is put so far is what is answered to those passed; the inner loop changes nothing until it has found the identifier.
use mathlib.Core.Path.{◌≡◌, refl, sym, ◌∙◌}
use mathlib.Core.List.{List}
use Prim.Native.Nat.{ℕ, ◌<◌}
use native.Mathlib.Omega.{arith}
use borrow.Author.Tests.{ne_eqb}
use Rattle.identifiers.specs.Below.{list_below}
use Rattle.identifiers.specs.Bytes.{Puts}
use Rattle.identifiers.proofs.LawsBelow.{list-none, first-none, first-miss}
use Rattle.identifiers.proofs.LawsBytes.{puts_none, turn, turn-none}
use Rattle.server.specs.DataIdentifiers.{asked_count, answers_of}
use Rattle.server.proofs.LawsTrailer.{sound-has, length-within}
use Rattle.server.proofs.LawsHeld.{held-same}
use Rattle.server.proofs.LawsDataIdentifiers.{answer-fits, found, found_none}
use Rattle.server.proofs.sound.Sound.put_answers.Goals as goal

-- the inner loop keeps at and response: what is put so far stands at its own too
keeps : (f : ℕ → List ℕ) (j : ℕ) {before : List ℕ} {start at₀ at : ℕ} {response₀ response : List ℕ} → (at ≡ at₀) × (response ≡ response₀) → Puts before start (list_below f j) at₀ response₀
    → Puts before start (list_below f j) at response
keeps f j same p = rw (same.0, same.1) p

pub asked-init : goal.asked-init
asked-init c = rw (list-none _) (puts_none _ _)

pub loop-k-init : goal.loop-k-init
loop-k-init c = (first-none _, (refl, refl))

pub put_identifier_and_data-at-requires : goal.put_identifier_and_data-at-requires
unfolding asked_count
put_identifier_and_data-at-requires c =
    let t = c.args.self.now.record.now in
    let s = sound-has t c.args.self.now.sound in
    let i = c.loop-k.invariant in
    let within : c.loop-k.k < t.held = omega (arith, c.identifiers-held-items.ensures.1) in
    let here = held-same t.identifiers c.identifiers-held-items.ensures within in
    (omega (arith, s.held), ((length-within t c.loop-k.k s.lengths within).1, answer-fits t c.args.request.bytes.now c.asked.j c.loop-k.k _ (found t _ _ _ c.asked-identifier.ensures i.0 (sym here ∙ c.if-held-identifier.true) within) (omega arith) (keeps _ _ i.1 c.asked.invariant) c.requires))

pub asked-preserved-then-held-identifier : goal.asked-preserved-then-held-identifier
asked-preserved-then-held-identifier c =
    let t = c.args.self.now.record.now in
    let i = c.loop-k.invariant in
    let within : c.loop-k.k < t.held = omega (arith, c.identifiers-held-items.ensures.1) in
    let here = held-same t.identifiers c.identifiers-held-items.ensures within in
    turn _ _ (keeps _ _ i.1 c.asked.invariant) (found t _ _ _ c.asked-identifier.ensures i.0 (sym here ∙ c.if-held-identifier.true) within) c.put_identifier_and_data-at.ensures

pub loop-k-preserved : goal.loop-k-preserved
loop-k-preserved c =
    let t = c.args.self.now.record.now in
    let i = c.loop-k.invariant in
    let within : c.loop-k.k < t.held = omega (arith, c.identifiers-held-items.ensures.1) in
    (first-miss _ _ i.0 (ne_eqb _ _ (λ e. c.if-held-identifier.false (held-same t.identifiers c.identifiers-held-items.ensures within ∙ e))), i.1)

pub asked-preserved : goal.asked-preserved
asked-preserved c =
    let t = c.args.self.now.record.now in
    let i = c.loop-k.invariant in
    let all : c.loop-k.k ≡ t.held = omega (arith, c.identifiers-held-items.ensures.1) in
    turn-none _ _ (keeps _ _ i.1 c.asked.invariant) (found_none t _ _ c.asked-identifier.ensures (rw all at i.0))

pub returns : goal.returns
unfolding answers_of asked_count
returns c = let e : asked_count c.args.request.bytes.now ≡ c.asked.j = omega arith in rw e c.asked.invariant
