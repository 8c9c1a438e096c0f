-- `print_page` meets its contract, and shows what `send` asks: the bytes written are the definition's page of the sheet and the mask.
use Rattle.std.proofs.Common.{ℕ, sym, length-take-le}
use lib.ListN.{length-replicate}
use Rattle.sheet.specs.Text.{page_size}
use Rattle.sheet.proofs.LawsRanked.{rank-fits, rank-whole}
use Rattle.ranking.proofs.print_page.Goals as goal

pub slice_bounds-page-end : goal.slice_bounds-page-end
slice_bounds-page-end c = rank-fits _ _ (length-replicate {A = ℕ} page_size 0) c.rank-end.ensures

pub slice_bounds-send-end : goal.slice_bounds-send-end
slice_bounds-send-end c = sym (length-take-le _ _ (rank-fits _ _ (length-replicate {A = ℕ} page_size 0) c.rank-end.ensures))

pub send-requires : goal.send-requires
send-requires c = rank-whole _ _ (length-replicate {A = ℕ} page_size 0) c.rank-end.ensures
