-- `print_sheet` meets its contract, and shows what `send` asks: no word was given, and the bytes written are the definition's text of the bytes read.
use Rattle.std.proofs.Common.{ℕ, sym, length-take-le}
use lib.ListN.{length-replicate}
use Rattle.sheet.specs.Text.{page_size}
use Rattle.sheet.proofs.LawsPrinted.{print-fits, print-whole}
use Rattle.input.proofs.LawsWithin.{within_bytes}
use Rattle.countsheet.proofs.print_sheet.Goals as goal

pub send-requires : goal.send-requires
send-requires c = print-whole _ (length-replicate {A = ℕ} page_size 0) c.print-end.ensures

pub slice_bounds-page-end : goal.slice_bounds-page-end
slice_bounds-page-end c = print-fits _ (length-replicate {A = ℕ} page_size 0) c.print-end.ensures

pub slice_bounds-send-end-2 : goal.slice_bounds-send-end-2
slice_bounds-send-end-2 c = sym (length-take-le _ _ (print-fits _ (length-replicate {A = ℕ} page_size 0) c.print-end.ensures))

pub slice_bounds-print-end : goal.slice_bounds-print-end
slice_bounds-print-end c = sym (length-take-le _ _ (within_bytes _ _ _ c.in-Ok.is c.read_whole.ensures))

pub slice_bounds-send-end : goal.slice_bounds-send-end
slice_bounds-send-end c = sym (length-take-le _ _ (within_bytes _ _ _ c.in-Ok.is c.read_whole.ensures))
