-- Delivery through the whole train, proved: each statement of `Delivery`.
use mathlib.Core.Path.{◌≡◌, refl, sym, ap, ap₂, ◌∙◌}
use mathlib.Core.Bool.{Bool, true}
use mathlib.Core.List.{List, [], ◌∷◌, ◌++◌, head-eq_of_cons-eq}
use mathlib.Core.Logic.{◌≢◌}
use Prim.Native.Nat.{ℕ, suc, ◌+◌, ◌-◌, ◌^◌, ◌≤◌, ◌<◌}
use native.Mathlib.Decide.{dec_lt}
use native.Mathlib.Omega.{arith}
use lib.ListN.{length}
use Rattle.std.specs.Prelude.{Some, None, Ok, Err}
use Rattle.identifiers.specs.Identifiers.{formula}
use Rattle.identifiers.specs.declared.identifier.Identifier.{Identifier}
use Rattle.identifiers.proofs.LawsInverse.{Widths, formula-range, formula-fields}
use Rattle.readings.specs.declared.position.Position.{Position}
use Rattle.readings.specs.declared.routing.RoutedTold.{RoutedTold}
use Rattle.readings.specs.Positions.{place_of, address_of}
use Rattle.readings.specs.Routes.{Keeps}
use Rattle.readings.proofs.LawsPositions.{places-differ}
use Rattle.readings.proofs.LawsAnswers.{told-passed, told-neither, told-refused}
use Rattle.delivery.specs.Hands.{kept_by, onward_by, delivered}
use Rattle.delivery.specs.Delivery.{comes_to, Delivers, Sent, HandToHand, OneDelivery, NamesOne, NoCircle, NeverTwice, NeverBack, SetSameArrivals, RefusedStopped, RightAddresses, ToldAlike}
use Rattle.delivery.proofs.LawsRoutesAt.{keeps, keeps_at, keeps-at, keeps-exactly}
use Rattle.delivery.proofs.LawsHands.{before, from, delivered-is}
use Rattle.delivery.proofs.LawsCircle.{ends}
use Rattle.delivery.proofs.LawsComes.{comes-append, not-before, before-once, not-from, from-once}
use Rattle.delivery.proofs.LawsDelivers.{not-kept, same-everywhere, names-no-other}
use Rattle.delivery.proofs.LawsTaken.{all_right}
use Rattle.delivery.proofs.LawsTwice.{at-most-once, not-to-the-sender}
use Rattle.delivery.proofs.LawsUnkept.{sent-unkept, handed-set, refused-read, handed-refused}

-- ---- a frame that the vehicle q sends: what comes to a place comes from ahead of q or from behind it
module _ (own : ℕ → ℕ) (n number count : ℕ) (q : Position) (s : Sent own n number count q) (hands : ℕ) (enough : n ≤ hands) where
  abbrev to : ℕ → List Bool
  to place = comes_to place (delivered own n number count hands q)

  abbrev ahead : ℕ → List Bool
  ahead place = comes_to place (before number (place_of q))

  abbrev behind : ℕ → List Bool
  behind place = comes_to place (from number (suc (place_of q)) (n - place_of q))

  halves : (place : ℕ) {a b : List Bool} → ahead place ≡ a → behind place ≡ b → to place ≡ a ++ b
  halves place e f = ap (comes_to place) (delivered-is own n number count q s hands enough) ∙ comes-append place (before number (place_of q)) _ ∙ ap₂ ◌++◌ e f

  not-ahead : (place : ℕ) → place_of q ≤ place → ahead place ≡ []
  not-ahead place l = not-before number (place_of q) place l

  not_behind : (place : ℕ) → (place_of q < place → place ≤ n → ⊥) → behind place ≡ []
  not_behind place h = not-from number (n - place_of q) (suc (place_of q)) place (λ (l : suc (place_of q) ≤ place) (m : place < suc (place_of q) + (n - place_of q)). h (omega arith) (omega (arith, s.within)))

  to-other : (p : Position) → place_of p ≤ n → p ≢ q → to (place_of p) ≡ keeps number p ∷ []
  to-other p most other = go (dec_lt (place_of p) (place_of q)) ∙ ap (λ (k : Bool). k ∷ []) (keeps-at number p)
    where
      go : Dec (place_of p < place_of q) → to (place_of p) ≡ keeps_at number (place_of p) ∷ []
      go (yes l) = halves (place_of p) (before-once number (place_of q) (place_of p) l) (not_behind (place_of p) (λ (k : place_of q < place_of p) j. omega arith))
      go (no l) =
          let apart : place_of p ≢ place_of q = λ e. other (places-differ p q e) in
          halves (place_of p) (not-ahead (place_of p) (omega arith)) (from-once number (n - place_of q) (suc (place_of q)) (place_of p) (omega (arith, apart)) (omega arith))

  delivers : Delivers n number q (delivered own n number count hands q)
  delivers =
      record {
        every_other_once = λ p most other. ap length (to-other p most other);
        nobody_else = λ place l. halves place (not-ahead place (omega (arith, s.within))) (not_behind place (λ k (j : place ≤ n). omega arith));
        kept_exactly =
            λ p most other.
            let is = to-other p most other in
            (λ (e : to (place_of p) ≡ true ∷ []). (keeps-exactly number p).0 (head-eq_of_cons-eq (sym is ∙ e)), λ k. is ∙ ap (λ (k : Bool). k ∷ []) ((keeps-exactly number p).1 k));
        never_returns = not-to-the-sender own n number count (place_of q) hands q refl;
      }

pub hand-to-hand : HandToHand
hand-to-hand = delivers

pub one-delivery : OneDelivery
one-delivery = same-everywhere

pub names-one : NamesOne
names-one n number q arrivals d r h own p most other apart = not-kept n number q p most other arrivals d (λ (k : Keeps p number). names-no-other p r number h own apart k.names)

pub no-circle : NoCircle
no-circle own n number count q within hands enough = ends own n number count hands n q within enough (omega arith)

pub never-twice : NeverTwice
never-twice own n number count hands q place = at-most-once own n number count place hands q

pub never_back : NeverBack
never_back own n number count hands q = not-to-the-sender own n number count (place_of q) hands q refl

pub set-same-arrivals : SetSameArrivals
set-same-arrivals own n number count q hands set = sent-unkept own n number (number - 2 ^ 25) count hands hands q (handed-set own n number count set hands)

pub refused-stopped : RefusedStopped
refused-stopped own n number count q hands h =
    let r = refused-read number count h in
    sent-unkept own n number number count (suc hands) 1 q (handed-refused own n number count r.0 r.1 hands)

pub right-addresses : RightAddresses
right-addresses = all_right

alike : {a b : RoutedTold} → a ≡ b → (a.kept ≡ b.kept) × (a.onward ≡ b.onward)
alike e = (ap (λ (t : RoutedTold). t.kept) e, ap (λ (t : RoutedTold). t.onward) e)

pub told-alike : ToldAlike
unfolding kept_by onward_by
told-alike (Ok (Some p)) = alike (told-passed p)
told-alike (Ok None) = alike told-neither
told-alike (Err why) = alike (told-refused why)

-- Every vehicle of a train can send such frames: any six fields within their widths, with its own address for SA.
pub sendable : (own : ℕ → ℕ) (n : ℕ) (q : Position) (i : Identifier) (count : ℕ) → n ≤ 5 → ((place : ℕ) → 1 ≤ place → place ≤ n → own place ≡ place) → place_of q ≤ n → count ≤ 8 → Widths i → i.source ≡ address_of q → Sent own n (formula i) count q
sendable own n q i count trailers right within data_bytes w source =
    record { trailers = trailers; right = right; within = within; range = formula-range i w; data_bytes = data_bytes; source = ap (λ (j : Identifier). j.source) (formula-fields i w) ∙ source }
