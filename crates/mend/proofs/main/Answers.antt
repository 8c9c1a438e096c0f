-- `main` meets its contract: no more bytes were read than the buffer has.
use Rattle.std.proofs.Common.{sym, length-take-le}
use Rattle.input.proofs.LawsWithin.{within_bytes}
use Rattle.mend.proofs.main.Goals as goal

pub slice_bounds-mend_sheet-end : goal.slice_bounds-mend_sheet-end
slice_bounds-mend_sheet-end c = sym (length-take-le _ _ (within_bytes _ _ _ c.in-Ok.is c.read_whole.ensures))
