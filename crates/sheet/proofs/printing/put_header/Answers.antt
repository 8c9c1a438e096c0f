-- `put_header` meets its contract: there is room for its 36 bytes.
use native.Mathlib.Omega.{arith}
use Rattle.text.proofs.LawsPutting.{put-fits}
use Rattle.sheet.proofs.printing.put_header.Goals as goal

pub returns : goal.returns
returns c =
    put-fits (omega arith) c.put.ensures
