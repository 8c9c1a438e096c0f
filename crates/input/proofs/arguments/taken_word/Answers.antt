-- `taken_word` is safe: a word that the buffer takes ends in it.
use Rattle.std.proofs.Common.{sym, length-take-le}
use Rattle.input.proofs.LawsWithin.{within-some}
use Rattle.input.proofs.arguments.taken_word.Goals as goal

pub slice_bounds-result-end : goal.slice_bounds-result-end
slice_bounds-result-end c = sym (length-take-le _ _ (within-some _ _ _ c.ok.ensures.value c.in_ok-n.was c.word.ensures))
