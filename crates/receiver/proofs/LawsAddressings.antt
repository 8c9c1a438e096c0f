-- Checks 2 to 8, both ways: what a frame has that they let through, and which of them one fails that they refuse.
use Rattle.std.proofs.Common.{◌≡◌, ℕ, ◌≤◌, Bool, true, false, eqb, leb, ◌↔◌, List, length, get_or, sym, refl, ap, ◌∙◌, subst, lit≤, eq-eqb, ne_eqb, eqb-true, le-leb, leb-false, leb-true, Result, Ok, Err, Option, Some, None}
use mathlib.Core.Bool.{false≢true}
use borrow.Author.Tests.{eqb-false, lt-leb}
use Rattle.identifiers.specs.Choice.{pick, both, either}
use Rattle.identifiers.specs.Refusals.{refusal, number_of}
use Rattle.identifiers.specs.Identifiers.{fields_of}
use Rattle.identifiers.specs.declared.refusal.Refusal.{Refusal}
use Rattle.identifiers.specs.declared.identifier.Identifier.{Identifier}
use Rattle.identifiers.proofs.LawsChoice.{Holds, by-test, pick_true, pick-false, both_true, both_false, stop, so, right-decides}
use Rattle.identifiers.proofs.LawsIdentifiers.{Reads, reads-2, reads-3, reads-4, reads-fields, frame-reads, frame-2, frame-3, frame-4, frame-fields}
use Rattle.readings.specs.Positions.{place_of, address_of, position_of}
use Rattle.readings.specs.declared.position.Position.{Position}
use Rattle.readings.proofs.LawsPositions.{address-only, address-back, places-differ, not_none}
use Rattle.receiver.specs.declared.addressing.Addressing.{Addressing}
use Rattle.receiver.specs.Addressings.{from_vehicle, diagnostic, destination_of, unit_is, addressed_from, addressed_by, addressed_read, addressing_of}
use Rattle.receiver.specs.Wire.{Addressed}
use Rattle.receiver.specs.Names.{Readable, Diagnostic, FromOther, destined_to, NotDiagnostic, other_page, other_format, NoOtherVehicle, no_vehicle, own_address, OtherUnit, no_unit, another}
use Rattle.receiver.specs.Names.{Misaddressed, names_2, names_3, names_4, names_5, names_6, names_7, names_8}

-- what is known of a frame that is so addressed
abbrev pub FairAddressing : Position → ℕ → ℕ → List ℕ → Result Addressing Refusal → Type 0
FairAddressing own unit n bytes (Err why) = Misaddressed own unit n bytes why
FairAddressing own unit n bytes (Ok a) = Addressed own unit n bytes a.from a.functional

-- ---- which check failed
wrong-unit : (unit : ℕ) (bytes : List ℕ) (some same : Bool) → leb 1 (length bytes) ≡ some → eqb (get_or bytes 0 0) unit ≡ same → both some same ≡ false → OtherUnit unit bytes
unfolding both
wrong-unit unit bytes false same a b e = no_unit (leb-false _ _ a)
wrong-unit unit bytes true false a b e = another (leb-true _ _ a) (eqb-false _ _ b)
wrong-unit unit bytes true true a b e = absurd (false≢true (sym e))

wrong-format : (n : ℕ) (page functional physical : Bool) → eqb (fields_of n).data_page 0 ≡ page → eqb (fields_of n).format 205 ≡ functional → eqb (fields_of n).format 206 ≡ physical
    → both page (either functional physical) ≡ false → NotDiagnostic n
unfolding both either
wrong-format n false functional physical a b c e = other_page (eqb-false _ _ a)
wrong-format n true false false a b c e = other_format (eqb-false _ _ b) (eqb-false _ _ c)
wrong-format n true true physical a b c e = absurd (false≢true (sym e))
wrong-format n true false true a b c e = absurd (false≢true (sym e))

module _ (own : Position) (unit n : ℕ) (bytes : List ℕ) where
  abbrev i : Identifier
  i = fields_of n

  abbrev Fairly : Result Addressing Refusal → Type 0
  Fairly a = Holds (FairAddressing own unit n bytes) a

  refused : {why : Refusal} → Misaddressed own unit n bytes why → Fairly (Err why)
  refused x = record { holds = x }

  -- ---- what a frame that passes has, and which check one fails that does not
  format-is : (format : ℕ) (functional : Bool) → eqb format 205 ≡ functional → either functional (eqb format 206) ≡ true → format ≡ pick functional 205 206
  unfolding either pick
  format-is format true e d = eqb-true _ _ e
  format-is format false e d = eqb-true _ _ d

  addressed : {p : Position} {functional : Bool} → FromOther own n bytes p functional → i.specific ≡ destined_to own functional → (1 ≤ length bytes) × (get_or bytes 0 0 ≡ unit)
      → Addressed own unit n bytes p functional
  addressed x s u =
      let d = x.diagnostic in
      let r = d.readable in
      record { range = r.range; count = r.count; reserved = r.reserved; page = d.page; format = d.format; source = x.source; other = x.other; specific = s; own_unit = u }

  module _ (r : Readable n bytes) where
    fair-from : diagnostic i ≡ true → (v : Option Position) → position_of i.source ≡ v → Fairly (addressed_from own unit i bytes v)
    unfolding addressed_from diagnostic destination_of unit_is
    fair-from d v s = by v s
      where
        k : (eqb i.data_page 0 ≡ true) × (either (eqb i.format 205) (eqb i.format 206) ≡ true)
        k = both_true _ _ d

        x : Diagnostic n bytes (eqb i.format 205)
        x = record { readable = r; page = eqb-true _ _ k.0; format = format-is i.format _ refl k.1 }

        by : (v : Option Position) → position_of i.source ≡ v → Fairly (addressed_from own unit i bytes v)
        by None s = refused (names_6 x (no_vehicle (λ q (e : i.source ≡ address_of q). not_none q (sym s ∙ ap position_of e ∙ address-back q))))
        by (Some p) s =
            let from : i.source ≡ address_of p = address-only _ p s in
            by-test _ (λ e. refused (names_6 x (own_address (from ∙ ap address_of (places-differ p own (eqb-true _ _ e))))))
            (λ e. let y : FromOther own n bytes p (eqb i.format 205) = record { diagnostic = x; source = from; other = eqb-false _ _ e } in
            by-test _
            (λ f. by-test _ (λ g. let u = both_true _ _ g in record { holds = addressed y (eqb-true _ _ f) (leb-true _ _ u.0, eqb-true _ _ u.1) })
            (λ g. refused (names_8 y (eqb-true _ _ f) (wrong-unit unit bytes _ _ refl refl g))))
            (λ f. refused (names_7 y (eqb-false _ _ f))))

    fair-by : Fairly (addressed_by own unit i bytes)
    unfolding addressed_by diagnostic
    fair-by = by-test _ (λ e. fair-from e (position_of i.source) refl) (λ e. refused (names_5 r (wrong-format n _ _ _ refl refl refl e)))

  fair-read : {r : Result Identifier Refusal} → Reads n (length bytes) r → FairAddressing own unit n bytes (addressed_read own unit bytes r)
  unfolding addressed_read
  fair-read (reads-2 a) = names_2 a
  fair-read (reads-3 a b) = names_3 a b
  fair-read (reads-4 a b c) = names_4 a b c
  fair-read (reads-fields a b c) = (fair-by (record { range = a; count = b; reserved = c })).holds

  pub fair-addressing : (a : Result Addressing Refusal) → addressing_of own unit n bytes ≡ a → FairAddressing own unit n bytes a
  unfolding addressing_of
  fair-addressing a e = subst (FairAddressing own unit n bytes) e (fair-read (frame-reads n (length bytes)))

  -- ---- and the other way round
  is-205 : (f : Bool) → i.format ≡ pick f 205 206 → eqb i.format 205 ≡ f
  unfolding pick
  is-205 true e = eq-eqb _ _ e
  is-205 false e = rw e

  is-diagnostic : (f : Bool) → i.data_page ≡ 0 → i.format ≡ pick f 205 206 → diagnostic i ≡ true
  unfolding diagnostic both either pick
  is-diagnostic true z e = rw (z, e)
  is-diagnostic false z e = rw (z, e)

  not-diagnostic : NotDiagnostic n → diagnostic i ≡ false
  unfolding diagnostic
  not-diagnostic (other_page x) = sym (stop _ (ne_eqb _ _ x))
  not-diagnostic (other_format a b) = ap (both _) (sym (right-decides (ne_eqb _ _ a) (sym (ne_eqb _ _ b)))) ∙ both_false _

  not-unit : OtherUnit unit bytes → unit_is unit bytes ≡ false
  unfolding unit_is
  not-unit (no_unit x) = sym (stop _ (lt-leb _ _ x))
  not-unit (another a b) = ap (both _) (ne_eqb _ _ b) ∙ both_false _

  from-none : (v : Option Position) → position_of i.source ≡ v → NoOtherVehicle own n → addressed_from own unit i bytes v ≡ Err (refusal 6)
  unfolding addressed_from
  from-none None e x = refl
  from-none (Some p) e (no_vehicle x) = absurd (x p (address-only _ p e))
  from-none (Some p) e (own_address x) =
      let same : Some p ≡ Some own = sym e ∙ ap position_of x ∙ address-back own in
      let place : place_of p ≡ place_of own = ap place_of {x = p} {y = own} (cc) in
      pick_true _ _ (eq-eqb _ _ place)

  -- of a frame that passes 2 to 4, to 5, to 6
  to-4 : Readable n bytes → addressing_of own unit n bytes ≡ addressed_by own unit i bytes
  unfolding addressing_of addressed_read
  to-4 r = ap (addressed_read own unit bytes) (frame-fields n (length bytes) r.range r.count r.reserved)

  to-5 : {functional : Bool} → Diagnostic n bytes functional → addressing_of own unit n bytes ≡ addressed_from own unit i bytes (position_of i.source)
  unfolding addressed_by
  to-5 {functional} d = to-4 d.readable ∙ pick_true _ _ (is-diagnostic functional d.page d.format)

  to-6 : {p : Position} {functional : Bool} → FromOther own n bytes p functional
      → addressing_of own unit n bytes ≡ pick (eqb i.specific (destined_to own functional)) (pick (unit_is unit bytes) (from_vehicle p functional) (Err (refusal 8))) (Err (refusal 7))
  unfolding addressed_from destination_of
  to-6 {p} {functional} x =
      to-5 x.diagnostic
      ∙ ap (addressed_from own unit i bytes) (ap position_of x.source ∙ address-back p)
      ∙ rw (is-205 functional x.diagnostic.format) (pick-false _ _ (ne_eqb _ _ x.other))

  so-addressed : (p : Position) (functional : Bool) → Addressed own unit n bytes p functional → addressing_of own unit n bytes ≡ from_vehicle p functional
  unfolding unit_is
  so-addressed p functional a =
      to-6 (record { diagnostic = record { readable = record { range = a.range; count = a.count; reserved = a.reserved }; page = a.page; format = a.format }; source = a.source; other = a.other })
      ∙ pick_true _ _ (eq-eqb _ _ a.specific)
      ∙ pick_true _ _ (sym (so (le-leb _ _ a.own_unit.0) (sym (eq-eqb _ _ a.own_unit.1))))

  so-misaddressed : {why : Refusal} → Misaddressed own unit n bytes why → addressing_of own unit n bytes ≡ Err why
  unfolding addressing_of addressed_read addressed_by
  so-misaddressed (names_2 a) = ap (addressed_read own unit bytes) (frame-2 n _ a)
  so-misaddressed (names_3 a b) = ap (addressed_read own unit bytes) (frame-3 n _ a b)
  so-misaddressed (names_4 a b c) = ap (addressed_read own unit bytes) (frame-4 n _ a b c)
  so-misaddressed (names_5 r x) = to-4 r ∙ pick-false _ _ (not-diagnostic x)
  so-misaddressed (names_6 d x) = to-5 d ∙ from-none _ refl x
  so-misaddressed (names_7 y x) = to-6 y ∙ pick-false _ _ (ne_eqb _ _ x)
  so-misaddressed (names_8 y s x) = to-6 y ∙ pick_true _ _ (eq-eqb _ _ s) ∙ pick-false _ _ (not-unit x)

  -- ---- a frame is from this vehicle and for this node exactly where its identifier and its first byte say so
  pub addressing-is : (p : Position) (functional : Bool) → addressing_of own unit n bytes ≡ from_vehicle p functional ↔ Addressed own unit n bytes p functional
  addressing-is p functional = (fair-addressing _, so-addressed p functional)

  -- "Lowest first": and it is refused with this number exactly where the number names it
  pub misaddressed-exactly : (why : Refusal) → addressing_of own unit n bytes ≡ Err why ↔ Misaddressed own unit n bytes why
  misaddressed-exactly why = (fair-addressing _, so-misaddressed)

  pub misaddressed-number : {why : Refusal} → Misaddressed own unit n bytes why → (2 ≤ number_of why) × (number_of why ≤ 8)
  misaddressed-number (names_2 a) = (lit≤ tt, lit≤ tt)
  misaddressed-number (names_3 a b) = (lit≤ tt, lit≤ tt)
  misaddressed-number (names_4 a b c) = (lit≤ tt, lit≤ tt)
  misaddressed-number (names_5 r x) = (lit≤ tt, lit≤ tt)
  misaddressed-number (names_6 d x) = (lit≤ tt, lit≤ tt)
  misaddressed-number (names_7 y x) = (lit≤ tt, lit≤ tt)
  misaddressed-number (names_8 y s x) = (lit≤ tt, lit≤ tt)
