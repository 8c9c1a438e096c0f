-- `say` is safe: the parts end before the last byte of the line.
use Rattle.std.proofs.Common.{◌≤◌, sym, arith, length-take-le}
use Rattle.input.proofs.LawsLine.{parts_within, line-within}
use Rattle.input.proofs.standard_output.say.Goals as goal

pub overflow_add-end : goal.overflow_add-end
overflow_add-end c =
    let within : c.put-said.result ≤ 255 = parts_within c.put-named.ensures c.put-said.ensures in
    omega arith

pub bounds-line-said : goal.bounds-line-said
bounds-line-said c =
    let within : c.put-said.result ≤ 255 = parts_within c.put-named.ensures c.put-said.ensures in
    omega arith

pub slice_bounds-line-end-2 : goal.slice_bounds-line-end-2
slice_bounds-line-end-2 c = line-within c.put-named.ensures c.put-said.ensures _ _

pub slice_bounds-write_all-end : goal.slice_bounds-write_all-end
slice_bounds-write_all-end c = sym (length-take-le _ _ (line-within c.put-named.ensures c.put-said.ensures _ _))
