-- `refuse` meets its contract, and shows what `send` and `list` ask: the count sheet's line of an input that is too long is the text of both.
use Rattle.std.proofs.Common.{ℕ, sym, ◌∙◌, length-take-le}
use lib.ListN.{length-replicate}
use Rattle.sheet.specs.Text.{page_size}
use Rattle.sheet.proofs.LawsPrinted.{print-fits, print-whole}
use Rattle.mending.proofs.LawsTexts.{refused-text}
use Rattle.mend.proofs.refuse.Goals as goal

pub slice_bounds-page-end : goal.slice_bounds-page-end
slice_bounds-page-end c = print-fits _ (length-replicate {A = ℕ} page_size 0) c.print-end.ensures

pub slice_bounds-send-end : goal.slice_bounds-send-end
slice_bounds-send-end c = sym (length-take-le _ _ (print-fits _ (length-replicate {A = ℕ} page_size 0) c.print-end.ensures))

pub send-requires : goal.send-requires
send-requires c = print-whole _ (length-replicate {A = ℕ} page_size 0) c.print-end.ensures ∙ (refused-text _ c.requires).0

pub slice_bounds-page-end-then-send : goal.slice_bounds-page-end-then-send
slice_bounds-page-end-then-send c = print-fits _ (length-replicate {A = ℕ} page_size 0) c.print-end.ensures

pub slice_bounds-list-end : goal.slice_bounds-list-end
slice_bounds-list-end c = sym (length-take-le _ _ (print-fits _ (length-replicate {A = ℕ} page_size 0) c.print-end.ensures))

pub list-requires : goal.list-requires
list-requires c = print-whole _ (length-replicate {A = ℕ} page_size 0) c.print-end.ensures ∙ (refused-text _ c.requires).1
