-- What each turn of `put_lines` keeps.
use mathlib.Core.Path.{◌≡◌}
use Prim.Native.Nat.{◌*◌, ◌≤◌}
use lib.ListN.{length, drop}
use Rattle.std.specs.Slice.Iter.{chunks_exact_rest, chunks_exact_size}
use Rattle.identifiers.specs.Bytes.{Puts}
use Rattle.sheet.specs.Printed.{lines_of}
use Rattle.sheet.proofs.printing.put_lines.Given as goal

abbrev pub invariant-loop-reading : goal.invariant-loop-reading
invariant-loop-reading l =
    (goal.iterator-loop-reading).can_next l.reading-iterator ×
    (chunks_exact_size l.reading-iterator ≡ 17) ×
    (17 * length l.yielded ≤ length l.input) ×
    (chunks_exact_rest l.reading-iterator ≡ drop (17 * length l.yielded) l.input) ×
    Puts l.initial.page l.start (lines_of l.input (length l.yielded)) l.at l.page
