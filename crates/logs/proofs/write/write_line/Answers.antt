-- `write_line` meets its contract: refused by 2 and by 3, or its nine parts put in a row, each where there is room for it and for those behind it.
use mathlib.Core.Path.{◌∙◌}
use native.Mathlib.Omega.{arith}
use Rattle.logs.specs.Written.{four_bytes}
use Rattle.logs.proofs.LawsWritten.{put-seconds, name-bytes, put-stamp, put-name, put-data, write-2, write-3, write-whole}
use Rattle.logs.proofs.WrittenLines.{written-length}
use Rattle.logs.proofs.write.write_line.Goals as goal

pub returns-then-identifier-ge-TOO_LARGE : goal.returns-then-identifier-ge-TOO_LARGE
returns-then-identifier-ge-TOO_LARGE c = write-2 _ _ _ _ c.if-identifier-ge-TOO_LARGE.true

pub returns-then-data-gt8 : goal.returns-then-data-gt8
returns-then-data-gt8 c = write-3 _ _ _ _ c.if-identifier-ge-TOO_LARGE.false c.if-data-gt8.true

pub put_millis-d-requires : goal.put_millis-d-requires
put_millis-d-requires c =
    let millis = put-seconds c.args.stamp c.told-text (omega arith) c.put-a.ensures c.put_decimal-b.ensures c.put-c.ensures in
    (omega (arith, millis.room), omega arith)

pub put_hexes-f-requires : goal.put_hexes-f-requires
put_hexes-f-requires c =
    let millis = put-seconds c.args.stamp c.told-text (omega arith) c.put-a.ensures c.put_decimal-b.ensures c.put-c.ensures in
    let name = put-stamp c.args.stamp millis c.put_millis-d.ensures c.put-e.ensures in
    omega (arith, name.room)

pub put_hexes-h-requires : goal.put_hexes-h-requires
unfolding four_bytes
put_hexes-h-requires c =
    let millis = put-seconds c.args.stamp c.told-text (omega arith) c.put-a.ensures c.put_decimal-b.ensures c.put-c.ensures in
    let name = put-stamp c.args.stamp millis c.put_millis-d.ensures c.put-e.ensures in
    let front = put-name c.args.stamp c.args.identifier (c.to_be_bytes-name.ensures ∙ name-bytes c.args.identifier c.if-identifier-ge-TOO_LARGE.false) name c.put_hexes-f.ensures c.put-g.ensures in
    omega (arith, c.if-data-gt8.false, front.room)

pub overflow_cast-result : goal.overflow_cast-result
unfolding four_bytes
overflow_cast-result c =
    let millis = put-seconds c.args.stamp c.told-text (omega arith) c.put-a.ensures c.put_decimal-b.ensures c.put-c.ensures in
    let name = put-stamp c.args.stamp millis c.put_millis-d.ensures c.put-e.ensures in
    let front = put-name c.args.stamp c.args.identifier (c.to_be_bytes-name.ensures ∙ name-bytes c.args.identifier c.if-identifier-ge-TOO_LARGE.false) name c.put_hexes-f.ensures c.put-g.ensures in
    let line = put-data c.args.stamp c.args.identifier c.args.«data».now c.if-data-gt8.false front c.put_hexes-h.ensures c.put-end.ensures in
    let short = written-length c.args.identifier c.args.«data».now c.args.stamp c.if-data-gt8.false (omega arith) in
    omega (arith, line.ends, short)

pub returns : goal.returns
unfolding four_bytes
returns c =
    let millis = put-seconds c.args.stamp c.told-text (omega arith) c.put-a.ensures c.put_decimal-b.ensures c.put-c.ensures in
    let name = put-stamp c.args.stamp millis c.put_millis-d.ensures c.put-e.ensures in
    let front = put-name c.args.stamp c.args.identifier (c.to_be_bytes-name.ensures ∙ name-bytes c.args.identifier c.if-identifier-ge-TOO_LARGE.false) name c.put_hexes-f.ensures c.put-g.ensures in
    let line = put-data c.args.stamp c.args.identifier c.args.«data».now c.if-data-gt8.false front c.put_hexes-h.ensures c.put-end.ensures in
    write-whole _ _ _ _ c.if-identifier-ge-TOO_LARGE.false c.if-data-gt8.false line
