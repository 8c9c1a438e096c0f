-- `is_sound` meets its contract: two limits, then every rule.
use mathlib.Core.Path.{sym}
use Prim.Native.Nat.{◌≤◌}
use native.Mathlib.Omega.{arith}
use lib.ListN.{length}
use Rattle.std.proofs.lemmas.List.{length-take-le}
use borrow.Author.Tests.{le-leb, lt-leb}
use Rattle.identifiers.proofs.LawsChoice.{stop, so}
use Rattle.server.specs.Trailer.{codes_below, statuses_within, lengths_within, sound_record}
use Rattle.server.proofs.LawsTrailer.{tests-in-a-row}
use Rattle.server.proofs.LawsHeld.{held-codes, held-ascends, held-bits, held-lengths, sorted-ascending}
use Rattle.server.proofs.trailer.TrailerRecord.is_sound.Goals as goal
use Rattle.server.proofs.trailer.TrailerRecord.is_sound.Goals.{then-self-gt63-via-then-self-gt63, then-self-gt63-via-else-self-gt63+then-self-gt16}

pub returns-then-self-gt63 : goal.returns-then-self-gt63
unfolding sound_record
returns-then-self-gt63 c = elim c.then-self-gt63.branch [
  | then-self-gt63-via-then-self-gt63 w ↦ stop _ (sym (stop _ (lt-leb _ _ w.if-self-gt63.true)))
  | then-self-gt63-via-else-self-gt63+then-self-gt16 w ↦ stop _ (sym (so (le-leb _ _ w.if-self-gt63.false) (sym (lt-leb _ _ w.if-self-gt16.true))))
]

pub returns : goal.returns
unfolding sound_record codes_below statuses_within lengths_within
returns c =
    let t = c.args.self.now in
    let count : t.count ≤ length t.codes = omega arith in
    let statuses : t.count ≤ length t.statuses = omega arith in
    let identifiers : t.held ≤ length t.identifiers = omega arith in
    let lengths : t.held ≤ length t.lengths = omega arith in
    rw (
      c.sound_mask.ensures,
      c.sound_codes.ensures,
      c.statuses_within.ensures,
      sorted-ascending _ _ c.ascend.ensures,
      c.lengths_within.ensures,
      length-take-le t.count t.codes count,
      length-take-le t.held t.identifiers identifiers,
      held-codes t.codes t.count count,
      held-ascends t.codes t.count count,
      held-bits t.statuses t.availability t.count statuses,
      held-ascends t.identifiers t.held identifiers,
      held-lengths t.lengths t.held lengths,
    )
    (so (sym (so (le-leb _ _ c.if-self-gt63.false) (sym (le-leb _ _ c.if-self-gt16.false)))) (tests-in-a-row _ _ _ _ _ _))
