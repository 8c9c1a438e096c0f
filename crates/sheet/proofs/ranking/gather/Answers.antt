-- `gather` meets its contract: after n turns the places of the mask's readings among the first n are there, and where each of them stands.
use mathlib.Core.Path.{◌≡◌, sym, ap, ◌∙◌}
use mathlib.Core.List.{[], ◌∷◌, ◌++◌}
use mathlib.Core.Logic.{inl}
use Prim.Native.Nat.{◌+◌, ◌*◌}
use native.Mathlib.Omega.{arith}
use lib.ListN.{length, drop, length-append, length-drop}
use borrow.Author.Rules.{rules}
use Rattle.std.specs.Slice.Iter.{chunks_exact_rest}
use Rattle.std.specs.Iterator.Adapters.{enumerate_source}
use Rattle.sheet.specs.Readings.{readings_in}
use Rattle.sheet.specs.Standing.{standing_of}
use Rattle.sheet.proofs.LawsChunks.{chunk-reading, chunk-left}
use Rattle.sheet.proofs.LawsGathered.{asked, not-asked, gathered_none, gathered-hit, gathered-miss}
use Rattle.sheet.proofs.ranking.gather.Goals as goal

pub loop-place-init : goal.loop-place-init
unfolding readings_in
loop-place-init c = ((search rules, tt, inl (search rules)), search rules, search rules, search rules, omega arith, search rules, omega arith, gathered_none _ _ _ _)

pub loop-place-preserved-then-reading-mask : goal.loop-place-preserved-then-reading-mask
unfolding readings_in
loop-place-preserved-then-reading-mask c =
    let (_, _, count, size, within, left, few, gathered) = c.loop-place.invariant in
    let step = c.in-Some.ensures.steps in
    let n = length c.loop-place.yielded in
    let x = c.in-Some.bytes.now in
    let t = chunks_exact_rest (enumerate_source c.next.new.self) in
    let cut : drop (17 * n) c.args.input.now ≡ x ++ t = sym left ∙ step.0.1.0 in
    let long : length x ≡ 17 = step.0.1.1 ∙ size in
    let more : length (c.loop-place.yielded ++ (c.in-Some.place, c.in-Some.bytes) ∷ []) ≡ n + 1 = length-append c.loop-place.yielded ((c.in-Some.place, c.in-Some.bytes) ∷ []) in
    let here : c.in-Some.place ≡ n = step.1 ∙ count in
    let read = c.reading_of-reading.ensures.0 ∙ chunk-reading _ x t n cut long in (
      (omega (arith, step.0.0, size), tt, inl (rw (step.0.0 ∙ size) (omega (arith, step.2, count, c.requires.0, long, within, ap length cut, length-append x t, length-drop (17 * n) c.args.input.now)))),
      search rules,
      omega (arith, step.2, count, more),
      step.0.0 ∙ size,
      omega (arith, more, long, within, ap length cut, length-append x t, length-drop (17 * n) c.args.input.now),
      rw more (chunk-left _ x t n cut long),
      omega (arith, more, few),
      rw (more, here) (gathered-hit gathered (omega (arith, c.requires.0, long, within, ap length cut, length-append x t, length-drop (17 * n) c.args.input.now)) (asked read c.if-reading-mask.true) (c.standing.ensures ∙ ap standing_of read)),
    )

pub loop-place-preserved : goal.loop-place-preserved
unfolding readings_in
loop-place-preserved c =
    let (_, _, count, size, within, left, few, gathered) = c.loop-place.invariant in
    let step = c.in-Some.ensures.steps in
    let n = length c.loop-place.yielded in
    let x = c.in-Some.bytes.now in
    let t = chunks_exact_rest (enumerate_source c.next.new.self) in
    let cut : drop (17 * n) c.args.input.now ≡ x ++ t = sym left ∙ step.0.1.0 in
    let long : length x ≡ 17 = step.0.1.1 ∙ size in
    let more : length (c.loop-place.yielded ++ (c.in-Some.place, c.in-Some.bytes) ∷ []) ≡ n + 1 = length-append c.loop-place.yielded ((c.in-Some.place, c.in-Some.bytes) ∷ []) in
    let read = c.reading_of-reading.ensures.0 ∙ chunk-reading _ x t n cut long in (
      (omega (arith, step.0.0, size), tt, inl (rw (step.0.0 ∙ size) (omega (arith, step.2, count, c.requires.0, long, within, ap length cut, length-append x t, length-drop (17 * n) c.args.input.now)))),
      search rules,
      omega (arith, step.2, count, more),
      step.0.0 ∙ size,
      omega (arith, more, long, within, ap length cut, length-append x t, length-drop (17 * n) c.args.input.now),
      rw more (chunk-left _ x t n cut long),
      omega (arith, more, few),
      rw more (gathered-miss gathered (not-asked read c.if-reading-mask.false)),
    )
