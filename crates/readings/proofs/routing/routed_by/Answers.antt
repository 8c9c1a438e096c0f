-- `routed_by` meets its contract: each return is at one of the laws of `routed_by`.
use mathlib.Core.Path.{◌≡◌, sym, ap, ◌∙◌}
use mathlib.Core.Bool.{Bool}
use Prim.Native.Nat.{ℕ}
use lib.Dec.{eqb}
use Rattle.std.specs.Prelude.{Some}
use Rattle.identifiers.proofs.LawsChoice.{and_is}
use Rattle.readings.specs.declared.routing.Side.{Side}
use Rattle.readings.specs.Routes.{comes_from, onward_of, passage}
use Rattle.readings.proofs.LawsRoutes.{from-none, from_wrong, from-right}
use Rattle.readings.proofs.routing.routed_by.Goals as goal

-- the test's answer, at the places that were asked for
came : (side : Side) (successor : Bool) {t r : Bool} {x y a b : ℕ} → a ≡ x → b ≡ y → r ≡ comes_from side a successor b → r ≡ t → comes_from side x successor y ≡ t
came side successor h k l m = cc

pub returns-in_err-source : goal.returns-in_err-source
returns-in_err-source c = c.from_residual.ensures ∙ sym (from-none _ _ _ _ (sym c.of_address.ensures ∙ c.in_err-source.was))

pub returns-then-not-comes_from : goal.returns-then-not-comes_from
returns-then-not-comes_from c =
    sym (from_wrong c.args.side c.args.own c.args.successor c.args.fields _ (sym c.of_address.ensures ∙ c.in_ok-source.was)
    (came _ _ c.place.ensures c.place-2.ensures c.comes_from.ensures c.if-not-comes_from.true))

pub returns : goal.returns
unfolding passage
returns c =
    rw (c.names.ensures, c.address.ensures, c.target.ensures, c.onward_of.ensures)
    (ap (λ (kept : Bool). Some (record { kept = kept; onward = onward_of c.args.side c.args.successor })) (and_is (eqb c.args.fields.reserved 0) _)
    ∙ sym (from-right c.args.side c.args.own c.args.successor c.args.fields _ (sym c.of_address.ensures ∙ c.in_ok-source.was)
    (came _ _ c.place.ensures c.place-2.ensures c.comes_from.ensures c.if-not-comes_from.false)))
