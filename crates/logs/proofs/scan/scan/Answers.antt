-- `scan` meets its contract: the time, the identifier and the data make the whole.
use mathlib.Core.Path.{◌∙◌, ap}
use native.Mathlib.Omega.{arith}
use Rattle.logs.specs.declared.scan.Time.{Time}
use Rattle.logs.proofs.LawsScans.{mark-close, mark-says, time-says, scan-no-time, scan-no-name, scan-whole}
use Rattle.logs.proofs.scan.scan.Goals as goal

pub returns-in_err-time : goal.returns-in_err-time
returns-in_err-time c = c.from_residual.ensures ∙ scan-no-time c.args.text.now c.in_err-time.ensures

pub name_of-requires : goal.name_of-requires
name_of-requires c = ap (λ (t : Time). t.dot) (time-says c.args.text.now c.in_ok-time.ensures).1

pub returns-in_err-name : goal.returns-in_err-name
returns-in_err-name c = c.from_residual-in_err-name.ensures ∙ scan-no-name c.args.text.now c.in_ok-time.ensures c.in_err-name.ensures

pub returns : goal.returns
returns c = scan-whole c.args.text.now c.in_ok-time.ensures c.in_ok-name.ensures c.bytes_from-data.ensures c.line_of.ensures

pub overflow_add-name : goal.overflow_add-name
overflow_add-name c = omega (arith, mark-says c.args.text.now c.in_ok-name.ensures, mark-close c.args.text.now)

pub overflow_add-result : goal.overflow_add-result
overflow_add-result c = omega (arith, mark-says c.args.text.now c.in_ok-name.ensures, mark-close c.args.text.now)

pub overflow_add-result-2 : goal.overflow_add-result-2
overflow_add-result-2 c = omega (arith, mark-says c.args.text.now c.in_ok-name.ensures, mark-close c.args.text.now)
