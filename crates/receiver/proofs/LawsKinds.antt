-- Each kind of frame by its identifier and its bytes, both ways: what checks 2 to 10 let through is just what document 01 describes.
use Rattle.std.proofs.Common.{◌≡◌, ℕ, suc, ◌+◌, ◌*◌, ◌/◌, ◌%◌, ◌≤◌, Bool, false, eqb, ◌≢◌, ◌↔◌, List, length, get_or, refl, ap, ◌∙◌, arith, le-ltb, lt-ltb, ne_eqb, Ok, Err}
use Rattle.identifiers.specs.Choice.{pick}
use Rattle.identifiers.specs.Refusals.{refusal}
use Rattle.identifiers.proofs.LawsChoice.{pick_true, pick-false}
use Rattle.readings.specs.declared.position.Position.{Position}
use Rattle.receiver.specs.declared.frame.Judged.TheVariants.{Single, First, OverLong, Consecutive}
use Rattle.receiver.specs.Frames.{single_of, first_length, first_of, carried_of, judged_from, judged_of}
use Rattle.receiver.specs.Wire.{Addressed, IsSingle, IsFirst, IsOverLong, IsConsecutive}
use Rattle.receiver.proofs.LawsAddressings.{addressing-is}
use Rattle.receiver.proofs.LawsCarried.{single-carried, physical-carried}
use Rattle.receiver.proofs.LawsFrames.{fair}

module _ (own : Position) (unit n : ℕ) (bytes : List ℕ) where
  -- a frame that is addressed is judged by what it carries
  pub judged-carried : (p : Position) (functional : Bool) → Addressed own unit n bytes p functional → judged_of own unit n bytes ≡ carried_of p functional bytes
  unfolding judged_of judged_from
  judged-carried p functional a = ap (judged_from bytes) ((addressing-is own unit n bytes p functional).1 a)

  -- ---- each kind, by its identifier and its bytes
  pub single-is : (p : Position) (functional : Bool) (L : ℕ) → judged_of own unit n bytes ≡ Ok (Single p functional L) ↔ (Addressed own unit n bytes p functional × IsSingle bytes L)
  unfolding single_of
  single-is p functional L = (
    fair own unit n bytes _,
    λ (x : Addressed own unit n bytes p functional × IsSingle bytes L).
        let k = x.1 in
        let some : L ≢ 0 = λ (e : L ≡ 0). omega (arith, k.least) in
        let r = k.room in
        judged-carried p functional x.0
        ∙ single-carried bytes p functional (omega arith) k.high
        ∙ ap (λ (i : ℕ). single_of p functional i (length bytes)) k.low
        ∙ pick-false _ _ (ne_eqb _ _ some)
        ∙ pick-false _ _ (le-ltb _ _ k.most)
        ∙ pick-false _ _ (le-ltb _ _ k.room),
  )

  -- a physical frame whose high half is not 0
  not-single : (p : Position) (high : ℕ) → Addressed own unit n bytes p false → 2 ≤ length bytes → get_or bytes 1 0 / 16 ≡ suc high
      → judged_of own unit n bytes ≡ pick (eqb (suc high) 1) (first_of p bytes) (pick (eqb (suc high) 2) (Ok (Consecutive p (get_or bytes 1 0 % 16))) (pick (eqb (suc high) 3) (Err (refusal 10)) (Err (refusal 9))))
  not-single p high a r e = judged-carried p false a ∙ physical-carried bytes p false r refl (λ (d : get_or bytes 1 0 / 16 ≡ 0). omega arith) ∙ rw e

  pub first-is : (p : Position) (L : ℕ) → judged_of own unit n bytes ≡ Ok (First p L) ↔ (Addressed own unit n bytes p false × IsFirst bytes L)
  unfolding first_of first_length
  first-is p L = (
    fair own unit n bytes _,
    λ (x : Addressed own unit n bytes p false × IsFirst bytes L).
        let k = x.1 in
        let r = k.room in
        not-single p 0 x.0 (omega arith) k.high
        ∙ pick_true _ _ refl
        ∙ pick-false _ _ (le-ltb _ _ r)
        ∙ rw k.named (pick-false _ _ (le-ltb _ _ k.least) ∙ pick-false _ _ (le-ltb _ _ k.most)),
  )

  pub over-long-is : (p : Position) → judged_of own unit n bytes ≡ Ok (OverLong p) ↔ (Addressed own unit n bytes p false × IsOverLong bytes)
  unfolding first_of first_length
  over-long-is p = (
    fair own unit n bytes _,
    λ (x : Addressed own unit n bytes p false × IsOverLong bytes).
        let k = x.1 in
        let r = k.room in
        let o = k.over in
        let l : 7 ≤ get_or bytes 1 0 % 16 * 256 + get_or bytes 2 0 = omega arith in
        not-single p 0 x.0 (omega arith) k.high ∙ pick_true _ _ refl ∙ pick-false _ _ (le-ltb _ _ r) ∙ pick-false _ _ (le-ltb _ _ l) ∙ pick_true _ _ (lt-ltb _ _ o),
  )

  pub consecutive-is : (p : Position) (number : ℕ) → judged_of own unit n bytes ≡ Ok (Consecutive p number) ↔ (Addressed own unit n bytes p false × IsConsecutive bytes number)
  consecutive-is p number = (
    fair own unit n bytes _,
    λ (x : Addressed own unit n bytes p false × IsConsecutive bytes number).
        let k = x.1 in not-single p 1 x.0 k.room k.high ∙ pick-false _ _ refl ∙ pick_true _ _ refl ∙ ap (λ (i : ℕ). Ok (Consecutive p i)) k.low,
  )
