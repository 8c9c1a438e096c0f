-- What each turn of `gather` keeps.
use mathlib.Core.Path.{◌≡◌}
use Prim.Native.Nat.{◌*◌, ◌≤◌}
use lib.ListN.{length, drop}
use Rattle.std.specs.Slice.Iter.{chunks_exact_rest, chunks_exact_size}
use Rattle.std.specs.Iterator.Adapters.{enumerate_source, enumerate_count}
use Rattle.sheet.proofs.LawsGathered.{Gathered}
use Rattle.sheet.proofs.ranking.gather.Given as goal

abbrev pub invariant-loop-place : goal.invariant-loop-place
invariant-loop-place l =
    (goal.iterator-loop-place).can_next l.place-iterator ×
    (goal.iterator-loop-place).is_finite l.place-iterator ×
    (enumerate_count l.place-iterator ≡ length l.yielded) ×
    (chunks_exact_size (enumerate_source l.place-iterator) ≡ 17) ×
    (17 * length l.yielded ≤ length l.input) ×
    (chunks_exact_rest (enumerate_source l.place-iterator) ≡ drop (17 * length l.yielded) l.input) ×
    (l.found ≤ length l.yielded) ×
    Gathered l.input l.mask l.initial.places (length l.yielded) l.found l.places l.standings
