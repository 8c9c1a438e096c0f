-- `set_in` meets its contract: each return stands at its rung.
use mathlib.Core.Path.{refl, sym, ap, ◌∙◌}
use Prim.Native.Nat.{ℕ, ◌≤◌}
use lib.ListN.{set, length}
use native.Mathlib.Omega.{arith}
use Rattle.std.proofs.lemmas.Result.{err_from_is_err_and}
use Rattle.server.specs.Trailer.{with_statuses}
use Rattle.server.proofs.LawsTrailer.{sound-has, checked-sound, checked-1}
use Rattle.server.proofs.LawsPlaces.{held_at}
use Rattle.server.proofs.LawsHeld.{place-found, place-none}
use Rattle.server.proofs.LawsStatus.{set-ends, setting-1, setting-18, setting-19, setting-set}
use Rattle.server.proofs.status.set_in.Goals as goal

pub returns-in_err-check : goal.returns-in_err-check
returns-in_err-check c =
    let p = err_from_is_err_and c.from_residual.result c.from_residual.ensures.1 in
    let s = checked-1 c.args.record.now c.check.ensures c.in_err-check.was in
    rw (p.1, p.2, s.1) (set-ends (setting-1 _ _ _ s.0) (refl, refl))

pub shared_ref_as_front-place_of : goal.shared_ref_as_front-place_of
shared_ref_as_front-place_of c = (sound-has _ (checked-sound c.args.record.now c.check.ensures c.in_ok-check.was)).count

pub returns-in_default : goal.returns-in_default
returns-in_default c =
    let t = c.args.record.now in
    let sound = checked-sound t c.check.ensures c.in_ok-check.was in
    let room : t.count ≤ length t.codes = omega (arith, (sound-has t sound).count) in
    set-ends (setting-18 _ _ _ sound (place-none t.codes c.args.code t.count room (sym c.in_default.is ∙ c.place_of.ensures))) (refl, refl)

pub returns-then-not-status_within : goal.returns-then-not-status_within
returns-then-not-status_within c =
    let t = c.args.record.now in
    let sound = checked-sound t c.check.ensures c.in_ok-check.was in
    let room : t.count ≤ length t.codes = omega (arith, (sound-has t sound).count) in
    set-ends (setting-19 _ _ _ sound (place-found t.codes c.args.code t.count room (sym c.in-Some.is ∙ c.place_of.ensures)).0 (sym c.status_within.ensures ∙ c.if-not-status_within.true)) (refl, refl)

pub bounds-statuses-i : goal.bounds-statuses-i
bounds-statuses-i c =
    let t = c.args.record.now in
    let few = (sound-has t (checked-sound t c.check.ensures c.in_ok-check.was)).count in
    let room : t.count ≤ length t.codes = omega (arith, few) in
    let f = place-found t.codes c.args.code t.count room (sym c.in-Some.is ∙ c.place_of.ensures) in
    omega (arith, few, f.1, (held_at t.codes t.count c.args.code f.0).0)

pub returns : goal.returns
returns c =
    let t = c.args.record.now in
    let sound = checked-sound t c.check.ensures c.in_ok-check.was in
    let room : t.count ≤ length t.codes = omega (arith, (sound-has t sound).count) in
    let f = place-found t.codes c.args.code t.count room (sym c.in-Some.is ∙ c.place_of.ensures) in
    set-ends (setting-set _ _ _ sound f.0 (sym c.status_within.ensures ∙ c.if-not-status_within.false)) (ap (λ (i : ℕ). with_statuses t (set t.statuses i c.args.status)) (sym f.1), refl)
