-- `clear` meets its contract: every status of the record, the one at the place of the code, or none.
use mathlib.Core.Path.{◌≡◌, sym, ap, ◌∙◌}
use Prim.Native.Nat.{ℕ, ◌≤◌}
use native.Mathlib.Omega.{arith}
use lib.Bits.{bit_and}
use lib.ListN.{length, take, set}
use Rattle.std.proofs.lemmas.List.{length-take-le}
use Rattle.server.specs.Trailer.{with_statuses}
use Rattle.server.specs.Faults.{cleared_of}
use Rattle.server.proofs.LawsHeld.{place-found, place-none}
use Rattle.server.proofs.LawsCleared.{group_at, group-nowhere, group-everywhere}
use Rattle.server.proofs.trailer.TrailerRecord.clear.Goals as goal

pub returns-then-group-eq-ALL_GROUPS : goal.returns-then-group-eq-ALL_GROUPS
unfolding cleared_of
returns-then-group-eq-ALL_GROUPS c =
    let t = c.args.self.now in
    let long : length (take t.count t.statuses) ≡ t.count = length-take-le t.count t.statuses (omega (arith, c.requires.0)) in
    rw (c.fill.ensures.after (λ y e. e), long) (ap (with_statuses t) (group-everywhere t.codes t.count c.args.group (bit_and 0x50 t.availability) t.statuses c.if-group-eq-ALL_GROUPS.true (omega (arith, c.requires.0))))

pub returns-in-Some : goal.returns-in-Some
unfolding cleared_of
returns-in-Some c =
    let t = c.args.self.now in
    let room : t.count ≤ length t.codes = omega (arith, c.requires.0) in
    let f = place-found t.codes c.args.group t.count room (sym c.in-Some.is ∙ c.place_of.ensures) in
    ap (with_statuses t) (ap (λ (i : ℕ). set t.statuses i (bit_and 0x50 t.availability)) (sym f.1) ∙ group_at t.codes t.count c.args.group _ t.statuses c.if-group-eq-ALL_GROUPS.false c.requires.1 f.0)

pub returns-in_default : goal.returns-in_default
unfolding cleared_of
returns-in_default c =
    let t = c.args.self.now in
    let room : t.count ≤ length t.codes = omega (arith, c.requires.0) in
    ap (with_statuses t) (group-nowhere t.codes t.count c.args.group _ t.statuses c.if-group-eq-ALL_GROUPS.false (place-none t.codes c.args.group t.count room (sym c.in_default.is ∙ c.place_of.ensures)))
