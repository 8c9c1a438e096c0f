-- `form_of_19` meets its contract: each return stands at its rung.
use mathlib.Core.Path.{◌≡◌, refl, ap, ◌∙◌}
use mathlib.Core.List.{List}
use Prim.Native.Nat.{ℕ}
use denote.Ref.{Bor}
use lib.ListN.{get_or}
use Rattle.std.specs.Prelude.{Option, unwrap_or}
use Rattle.std.specs.Option.{option_map, option_copied}
use native.Mathlib.Omega.{arith}
use borrow.Author.Tests.{eq-eqb, ne_eqb, lt-ltb, le-ltb}
use Rattle.identifiers.proofs.LawsChoice.{taken, passed}
use Rattle.server.specs.Requests.{sub_function_of, silencing, mask_of, form_of_19}
use Rattle.server.proofs.requests.form_of_19.Goals as goal

-- the mask, or 0 where there is none
read : (request : List ℕ) (o : Option (Bor ℕ)) {copy : Option ℕ} {mask : ℕ} → mask ≡ unwrap_or copy 0 → copy ≡ option_copied o → unwrap_or (option_map (λ (x : Bor ℕ). x.now) o) 0 ≡ get_or request 2 0 → mask ≡ mask_of request
unfolding mask_of
read request o {copy} p q r = p ∙ ap (λ (x : Option ℕ). unwrap_or x 0) q ∙ r

pub returns-then-n-lt2 : goal.returns-then-n-lt2
unfolding form_of_19
returns-then-n-lt2 c = taken _ (lt-ltb _ 2 c.if-n-lt2.true) refl

pub returns-in-1 : goal.returns-in-1
unfolding form_of_19 sub_function_of silencing
returns-in-1 c =
    passed _ (le-ltb _ 2 c.if-n-lt2.false)
    (taken _ (eq-eqb _ 0x01 c.in-1.is) (rw (read c.args.request.now c.get.result c.unwrap_or-mask.ensures c.copied.ensures (c.get.ensures.lookup.4 (omega arith) 0)) at c.sized.ensures))

pub returns-in-2 : goal.returns-in-2
unfolding form_of_19 sub_function_of silencing
returns-in-2 c =
    passed _ (le-ltb _ 2 c.if-n-lt2.false)
    (passed _ (ne_eqb _ 0x01 (omega arith))
    (taken _ (eq-eqb _ 0x02 c.in-2.is) (rw (read c.args.request.now c.get.result c.unwrap_or-mask.ensures c.copied.ensures (c.get.ensures.lookup.4 (omega arith) 0)) at c.sized-in-2.ensures)))

pub returns-in-10 : goal.returns-in-10
unfolding form_of_19 sub_function_of silencing
returns-in-10 c =
    passed _ (le-ltb _ 2 c.if-n-lt2.false)
    (passed _ (ne_eqb _ 0x01 (omega arith))
    (passed _ (ne_eqb _ 0x02 (omega arith))
    (taken _ (eq-eqb _ 0x0A c.in-10.is) c.sized-in-10.ensures)))

pub returns-in_default : goal.returns-in_default
unfolding form_of_19 sub_function_of
returns-in_default c =
    passed _ (le-ltb _ 2 c.if-n-lt2.false)
    (passed _ (ne_eqb _ 0x01 (omega arith))
    (passed _ (ne_eqb _ 0x02 (omega arith))
    (passed _ (ne_eqb _ 0x0A (omega arith)) refl)))
