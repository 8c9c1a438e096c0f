-- `answer` meets its contract: no more bytes were read than the buffer has.
use Rattle.std.proofs.Common.{sym, length-take-le}
use Rattle.input.proofs.LawsWithin.{within_bytes}
use Rattle.ranking.proofs.answer.Goals as goal

pub slice_bounds-print_page-end : goal.slice_bounds-print_page-end
slice_bounds-print_page-end c = sym (length-take-le _ _ (within_bytes _ _ _ c.in-Ok.is c.read_whole.ensures))
