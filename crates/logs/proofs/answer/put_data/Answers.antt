-- `put_data` meets its contract: eight bytes or fewer are put, and there is room for them.
use mathlib.Core.Path.{◌≡◌, ap, ◌∙◌}
use Prim.Native.Nat.{ℕ, min}
use native.Mathlib.Omega.{arith}
use lib.ListN.{length, take, length-take}
use Rattle.std.proofs.lemmas.List.{take_min}
use Rattle.identifiers.specs.Bytes.{written}
use Rattle.text.proofs.LawsPutting.{put-fits}
use Rattle.logs.proofs.answer.put_data.Goals as goal

pub returns : goal.returns
returns c =
    let bytes = c.args.bytes.now in
    let long : length bytes ≡ 8 = omega arith in
    let end : c.min-end.result ≡ min c.args.count (length bytes) = rw long c.min-end.ensures in
    let room : length (take c.min-end.result bytes) ≡ min c.min-end.result (length bytes) = length-take _ _ in
    (put-fits (omega arith) c.put.ensures).holds ∙ ap (λ (n : ℕ). written c.args.«data».now 0 (take n bytes)) end ∙ ap (written c.args.«data».now 0) (take_min c.args.count bytes)
