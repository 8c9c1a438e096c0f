-- `count_input` is safe: what is read lies in the buffer.
use Rattle.std.proofs.Common.{sym, length-take-le}
use Rattle.input.proofs.LawsWithin.{within-some}
use Rattle.trial.proofs.count_input.Goals as goal

pub slice_bounds-buffer-end : goal.slice_bounds-buffer-end
slice_bounds-buffer-end c = within-some _ _ _ c.ok.ensures.value c.in_ok-n.was c.read_chunk.ensures

pub slice_bounds-count_chunk-end : goal.slice_bounds-count_chunk-end
slice_bounds-count_chunk-end c = sym (length-take-le _ _ (within-some _ _ _ c.ok.ensures.value c.in_ok-n.was c.read_chunk.ensures))
