-- `read_log` meets its contract: before each turn the line that has begun stands at the start of the buffer, and the counts are those of what was read before it.
use Rattle.std.proofs.Common.{◌≡◌, ℕ, ◌+◌, ◌-◌, ◌<◌, List, length, take, drop, ◌∙◌, arith}
use mathlib.Core.Bool.{true}
use borrow.Rule.Slice.PartMut.{take_put, same_len_mid, put_mid}
use Rattle.std.specs.Prelude.{Result, Ok}
use Rattle.std.proofs.lemmas.Result.{err_from_is_err_and}
use Rattle.input.specs.Within.{within}
use Rattle.input.proofs.LawsWithin.{more_within}
use Rattle.import.specs.declared.counting.Counts.{Counts}
use Rattle.import.proofs.LawsRead.{Looping, looping-first, looping-read, read-end, Turn, read-bad, at-near, read-long, looping-again}
use Rattle.import.proofs.read_log.Goals as goal

module _ {buffer : List ℕ} {counts : Counts} {held turn : ℕ} (inv : Looping buffer counts held turn) (rest : List ℕ) (same : length rest ≡ length (take (65536 - held) (drop held buffer))) where
  -- the buffer behind a read
  abbrev buffer-read : List ℕ
  buffer-read = put_mid held (65536 - held) buffer rest

  -- what was read stands behind the line that has begun
  filled : Looping buffer-read counts held turn
  filled =
      looping-read _ inv (take_put held (65536 - held) buffer rest (omega (arith, inv.short, inv.long))) (same_len_mid held (65536 - held) buffer rest same ∙ inv.long)

  -- a turn in which bytes were read
  read-turn : {E : Type 0} {n : ℕ} {r : Result ℕ E} → r ≡ Ok n → within (length rest) r ≡ true → turn < 140737488355328 → Turn buffer-read counts held turn (held + n)
  read-turn is inside some =
      record {
        looping = filled;
        some = some;
        behind = omega arith;
        within = omega (arith, more_within buffer _ held _ _ (omega (arith, inv.short, inv.long)) (rw inv.long same) is inside, inv.long);
      }

pub loop-turn-init : goal.loop-turn-init
loop-turn-init c = looping-first _ (omega arith)

pub returns-in_err-last_line : goal.returns-in_err-last_line
returns-in_err-last_line c =
    let p = err_from_is_err_and c.from_residual.result c.from_residual.ensures.1 in
    rw (p.1, p.2) (read-end (filled c.loop-turn.invariant c.read_chunk.new.buffer c.read_chunk.auto.buffer) c.loop-turn-test.true c.in_err-last_line.ensures)

pub returns-then-n-eq0 : goal.returns-then-n-eq0
returns-then-n-eq0 c = read-end (filled c.loop-turn.invariant c.read_chunk.new.buffer c.read_chunk.auto.buffer) c.loop-turn-test.true c.in_ok-last_line.ensures

pub overflow_add-end : goal.overflow_add-end
overflow_add-end c = omega (arith, (read-turn c.loop-turn.invariant c.read_chunk.new.buffer c.read_chunk.auto.buffer c.in-Ok.is c.read_chunk.ensures c.loop-turn-test.true).within)

pub slice_bounds-take_lines-end : goal.slice_bounds-take_lines-end
slice_bounds-take_lines-end c =
    let u = read-turn c.loop-turn.invariant c.read_chunk.new.buffer c.read_chunk.auto.buffer c.in-Ok.is c.read_chunk.ensures c.loop-turn-test.true in
    omega (arith, u.within, u.looping.long)

pub shared_ref_as_front-take_lines : goal.shared_ref_as_front-take_lines
shared_ref_as_front-take_lines c =
    let u = read-turn c.loop-turn.invariant c.read_chunk.new.buffer c.read_chunk.auto.buffer c.in-Ok.is c.read_chunk.ensures c.loop-turn-test.true in
    omega (arith, u.within, u.looping.long)

pub returns-in_err-taken : goal.returns-in_err-taken
returns-in_err-taken c =
    let u = read-turn c.loop-turn.invariant c.read_chunk.new.buffer c.read_chunk.auto.buffer c.in-Ok.is c.read_chunk.ensures c.loop-turn-test.true in
    let p = err_from_is_err_and c.from_residual-in_err-taken.result c.from_residual-in_err-taken.ensures.1 in
    rw (p.1, p.2) (read-bad u c.in_err-taken.ensures)

pub returns-then-end-taken-gt255 : goal.returns-then-end-taken-gt255
returns-then-end-taken-gt255 c =
    let u = read-turn c.loop-turn.invariant c.read_chunk.new.buffer c.read_chunk.auto.buffer c.in-Ok.is c.read_chunk.ensures c.loop-turn-test.true in
    read-long u c.in_ok-taken.ensures c.if-end-taken-gt255.true c.too_long.ensures

pub to_front-held-requires : goal.to_front-held-requires
to_front-held-requires c =
    let u = read-turn c.loop-turn.invariant c.read_chunk.new.buffer c.read_chunk.auto.buffer c.in-Ok.is c.read_chunk.ensures c.loop-turn-test.true in
    (at-near u c.in_ok-taken.ensures, omega (arith, u.within, u.looping.long))

pub loop-turn-preserved : goal.loop-turn-preserved
loop-turn-preserved c =
    let u = read-turn c.loop-turn.invariant c.read_chunk.new.buffer c.read_chunk.auto.buffer c.in-Ok.is c.read_chunk.ensures c.loop-turn-test.true in
    looping-again u c.in_ok-taken.ensures c.if-end-taken-gt255.false c.to_front-held.ensures
