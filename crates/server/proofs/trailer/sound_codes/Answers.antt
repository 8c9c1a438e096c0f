-- `sound_codes` meets its contract: where the codes ascend, the last decides for all.
use mathlib.Core.Path.{◌≡◌, sym}
use Prim.Native.Nat.{◌<◌, ◌-◌}
use borrow.Author.Rules.{rules}
use lib.ListN.{length, get_or}
use Rattle.identifiers.proofs.LawsChoice.{so}
use Rattle.identifiers.proofs.LawsBelow.{all_none}
use Rattle.server.specs.Trailer.{ascending}
use Rattle.server.proofs.LawsTrailer.{codes-by-last}
use Rattle.server.proofs.LawsHeld.{sorted-ascending}
use Rattle.server.proofs.trailer.sound_codes.Goals as goal

pub returns-in_default : goal.returns-in_default
unfolding ascending
returns-in_default c = let none : length c.args.codes.now ≡ 0 = search rules in rw none (so (all_none _) (sym (all_none _)))

pub returns : goal.returns
returns c =
    let some : 0 < length c.args.codes.now = search rules in
    let last : c.in-Some.last.now ≡ get_or c.args.codes.now (length c.args.codes.now - 1) 0 = search rules in
    rw (last, sorted-ascending _ _ c.ascend.ensures) (codes-by-last _ _ some)
