-- `Way::frame` meets its contract: the writer refuses no physical frame, and the bytes stand behind the head.
use Rattle.std.proofs.Common.{sym, ◌∙◌}
use Rattle.receiver.proofs.LawsOnWire.{wrote, headed-so}
use Rattle.receiver.proofs.cutter.Way.frame.Goals as goal

pub returns-in_err-identifier : goal.returns-in_err-identifier
returns-in_err-identifier c =
    let a = c.args.self in
    let w = wrote a.sender a.receiver c.address.ensures c.address-2.ensures c.write.ensures in
    let e = c.in_err-identifier.was in cc

pub returns : goal.returns
returns c =
    let a = c.args in
    let w = wrote a.self.sender a.self.receiver c.address.ensures c.address-2.ensures c.write.ensures in
    headed-so a.self.sender a.self.receiver a.head.now a.bytes.now (sym c.in_ok-identifier.was ∙ w) c.store.ensures c.store-2.ensures
