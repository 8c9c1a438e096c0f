-- `mend_sheet` meets its contract, and shows what `send` and `list` ask: both arrays hold their texts up to the ends that `mend` answers.
use Rattle.std.proofs.Common.{ℕ, sym, length-take-le}
use lib.ListN.{length-replicate}
use Rattle.sheet.specs.Text.{page_size}
use Rattle.mending.specs.Mended.{sheet_text, list_text}
use Rattle.mending.proofs.LawsMended.{answered-refused}
use Rattle.mending.proofs.LawsTexts.{Stands, sheet-stands, list-stands}
use Rattle.mend.proofs.mend_sheet.Goals as goal
use Rattle.mend.proofs.mend_sheet.Goals.{In-Ok}

sheet-is : (c : In-Ok) → Stands (sheet_text c.args.sheet.now) c.mend.new.kept c.in-Ok.mended.kept
sheet-is c = sheet-stands _ (sym c.in-Ok.ensures.0) c.in-Ok.ensures.1 (length-replicate {A = ℕ} 65535 0)

list-is : (c : In-Ok) → Stands (list_text c.args.sheet.now) c.mend.new.page c.in-Ok.mended.listed
list-is c = list-stands _ (sym c.in-Ok.ensures.0) c.in-Ok.ensures.1 (length-replicate {A = ℕ} page_size 0)

pub send-requires : goal.send-requires
send-requires c = (sheet-is (goal.at.send-requires c).In-Ok).whole

pub slice_bounds-kept-end : goal.slice_bounds-kept-end
slice_bounds-kept-end c = (sheet-is (goal.at.slice_bounds-kept-end c).In-Ok).within

pub slice_bounds-send-end : goal.slice_bounds-send-end
slice_bounds-send-end c = sym (length-take-le _ _ (sheet-is (goal.at.slice_bounds-send-end c).In-Ok).within)

pub slice_bounds-page-end : goal.slice_bounds-page-end
slice_bounds-page-end c = (list-is (goal.at.slice_bounds-page-end c).In-Ok).within

pub slice_bounds-list-end : goal.slice_bounds-list-end
slice_bounds-list-end c = sym (length-take-le _ _ (list-is (goal.at.slice_bounds-list-end c).In-Ok).within)

pub list-requires : goal.list-requires
list-requires c = (list-is (goal.at.list-requires c).In-Ok).whole

pub refuse-requires : goal.refuse-requires
refuse-requires c = (answered-refused _ _ (sym c.in-Err.ensures.0)).1
