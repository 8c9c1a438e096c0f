-- What stands in a sequence, by the relation alone: one train of a vehicle at most is under way, one request at most ends at a frame, one reading.
use Rattle.std.proofs.Common.{Ok}
use mathlib.Core.Path.{◌≡◌, refl, sym, ap, ◌∙◌, subst}
use mathlib.Core.Bool.{Bool}
use mathlib.Core.List.{List, ◌++◌}
use Prim.Native.Nat.{ℕ, suc, ◌+◌, ◌-◌, ◌*◌, ◌≤◌, ◌<◌, min}
use native.Mathlib.Omega.{arith}
use lib.ListN.{length, drop, length-append, length-drop}
use lib.Seq.{length-take-le}
use Rattle.readings.specs.declared.position.Position.{Position}
use Rattle.receiver.specs.declared.frame.Judged.TheVariants.{First}
use Rattle.receiver.specs.Frames.{Frame}
use Rattle.trains.specs.Sequences.{Line, start, ◌▹◌, size, physical_of, due, Request, seen, Passed, elsewhere, too_short, Next, Underway, begins, passes, goes_on, Complete, Stands, single, train, ReadAs, none_yet, no_more, one_more}
use Rattle.receiver.proofs.LawsFrames.{fair}
use Rattle.trains.specs.Terms.{Within, same, later, origin, Rests}

-- how many frames a sequence has
pub size_none : size start ≡ 0
unfolding size
size_none = refl

pub size-more : (h : Line) (f : Frame) → size (h ▹ f) ≡ suc (size h)
unfolding size
size-more h f = refl

-- the numbers of a train under way
pub record Bounded (L k : ℕ) (b : List ℕ) : Type 0 where
  pub low : 7 ≤ L
  pub high : L ≤ 255
  pub gathered : length b ≡ 5 + 6 * k
  pub unfinished : 5 + 6 * k < L

-- two requests are one
pub record Alike (p q : Position) (flag other : Bool) (m n : List ℕ) : Type 0 where
  pub from : p ≡ q
  pub functional : flag ≡ other
  pub bytes : m ≡ n

module _ {own : Position} {unit : ℕ} where
  -- ---- the ways in which a train takes a frame exclude one another
  passed_first : {p : Position} {L M : ℕ} {b : List ℕ} {f : Frame} → Passed own unit p L b f → seen own unit f ≡ Ok (First p M) → ⊥
  unfolding physical_of
  passed_first (elsewhere x) e = x (ap physical_of e)
  passed_first (too_short d l) e = let z : ◌≡◌ {A = ℕ} 0 1 = cc in omega arith

  first_next : {p : Position} {L M k t : ℕ} {b c : List ℕ} {f : Frame} → seen own unit f ≡ Ok (First p M) → Next own unit p L k t b f c → ⊥
  first_next e n = let d = n.in_order in let z : ◌≡◌ {A = ℕ} 0 1 = cc in omega arith

  pub passed-next : {p : Position} {L M k t : ℕ} {a b c : List ℕ} {f : Frame} → Passed own unit p L a f → Next own unit p M k t b f c → L ≡ M → a ≡ b → ⊥
  unfolding physical_of
  passed-next (elsewhere x) n i j = x (ap physical_of n.in_order)
  passed-next {L = L} {M = M} {a = a} {b = b} (too_short d l) n i j = let e : due L a ≡ due M b = cc in let g = n.long_enough in omega arith

  -- ---- one train of a vehicle at most is under way
  pub record Same {p : Position} {h : Line} {L k t M i s : ℕ} {b c : List ℕ} (x : Underway own unit p h L k t b) (y : Underway own unit p h M i s c) : Type 0 where
    pub long : L ≡ M
    pub count : k ≡ i
    pub stamp : t ≡ s
    pub bytes : b ≡ c
    pub begin : origin x ≡ origin y

  pub one-underway : {p : Position} {h : Line} {L k t M i s : ℕ} {b c : List ℕ} (x : Underway own unit p h L k t b) (y : Underway own unit p h M i s c) → Same x y
  one-underway (begins e u c) (begins d v a) = record { long = cc; count = refl; stamp = cc; bytes = cc; begin = refl }
  one-underway (begins e u c) (passes y m) = absurd (passed_first m e)
  one-underway (begins e u c) (goes_on y m v j) = absurd (first_next e m)
  one-underway (passes x n) (begins d v a) = absurd (passed_first n d)
  one-underway (passes x n) (passes y m) = let s = one-underway x y in record { long = s.long; count = s.count; stamp = s.stamp; bytes = s.bytes; begin = s.begin }
  one-underway (passes x n) (goes_on y m v j) = let s = one-underway x y in absurd (passed-next n m s.long s.bytes)
  one-underway (goes_on x n u l) (begins d v a) = absurd (first_next d n)
  one-underway (goes_on x n u l) (passes y m) = let s = one-underway x y in absurd (passed-next m n (sym s.long) (sym s.bytes))
  one-underway (goes_on x n u l) (goes_on y m v j) =
      let s = one-underway x y in
      let a = n.bytes in
      let d = m.bytes in
      record { long = s.long; count = ap suc s.count; stamp = cc; bytes = cc; begin = s.begin }

  -- ---- its numbers
  pub grown : {p : Position} {L k t : ℕ} {b c : List ℕ} {f : Frame} → Next own unit p L k t b f c → length (b ++ c) ≡ length b + due L b
  grown {L = L} {b = b} {c = c} {f = f} n =
      let l = n.long_enough in
      length-append b c ∙ ap (λ (i : ℕ). length b + i) (ap length n.bytes ∙ length-take-le (due L b) (drop 2 f.bytes) (simp length-drop (omega arith)))

  pub bounded : {p : Position} {h : Line} {L k t : ℕ} {b : List ℕ} → Underway own unit p h L k t b → Bounded L k b
  unfolding due
  bounded (begins {f = f} e u c) =
      let s = (fair own unit f.identifier f.bytes _ e).1 in
      record { low = s.least; high = s.most; gathered = ap length c ∙ length-take-le 5 (drop 3 f.bytes) (simp length-drop (omega arith)); unfinished = omega arith }
  bounded (passes w x) = bounded w
  bounded (goes_on {L = L} {k = k} {b = b} {c = c} w n u l) =
      let i = bounded w in
      let g : length (b ++ c) ≡ length b + min 6 (L - length b) = grown n in
      record { low = i.low; high = i.high; gathered = omega arith; unfinished = omega arith }

  -- ---- one request at most ends at a frame
  pub same-train : {p : Position} {h : Line} {f : Frame} {m n : List ℕ} (x : Complete own unit p h f m) (y : Complete own unit p h f n)
      → (m ≡ n) × (origin x.underway ≡ origin y.underway)
  same-train x y =
      let s = one-underway x.underway y.underway in
      let a = x.last.bytes in
      let b = y.last.bytes in
      let i = x.bytes in
      let j = y.bytes in
      (cc, s.begin)

  pub one-request : {p q : Position} {functional other : Bool} {h : Line} {f : Frame} {m n : List ℕ} → Stands own unit p functional h f m → Stands own unit q other h f n
      → Alike p q functional other m n
  one-request (single e a) (single d b) = record { from = cc; functional = cc; bytes = cc }
  one-request (single e a) (train i y) = let d = y.last.in_order in let z : ◌≡◌ {A = ℕ} 0 1 = cc in absurd (omega arith)
  one-request (train i x) (single d b) = let e = x.last.in_order in let z : ◌≡◌ {A = ℕ} 0 1 = cc in absurd (omega arith)
  one-request {p} {q} {h = h} {f} {n = n} (train i x) (train j y) =
      let d = x.last.in_order in
      let e = y.last.in_order in
      let s : q ≡ p = cc in
      record { from = sym s; functional = cc; bytes = (same-train x (subst (λ (r : Position). Complete own unit r h f n) s y)).0 }

  -- ---- one reading
  pub readings-agree : {h : Line} {r s : List Request} → ReadAs own unit h r → ReadAs own unit h s → r ≡ s
  readings-agree none_yet none_yet = refl
  readings-agree (no_more x n) (no_more y m) = readings-agree x y
  readings-agree (no_more x n) (one_more y s) = absurd (n _ _ _ s)
  readings-agree (one_more x s) (no_more y m) = absurd (m _ _ _ s)
  readings-agree (one_more x s) (one_more y z) = let i = readings-agree x y in let a = one-request s z in cc

  -- ---- after a complete train none is under way, until another begins
  pub completed : {p : Position} {h : Line} {f : Frame} {m : List ℕ} → Complete own unit p h f m → Rests own unit p (h ▹ f)
  completed x L k t b (begins e u c) = first_next e x.last
  completed x L k t b (passes y n) = let s = one-underway y x.underway in passed-next n x.last s.long s.bytes
  completed x L k t b (goes_on {b = a} {c = c} y n u l) =
      let s = one-underway y x.underway in
      let e : length (a ++ c) ≡ length (x.b ++ x.c) = grown n ∙ (cc) ∙ sym (grown x.last) in
      let w = x.whole in
      let i = s.long in
      omega arith

  pub once : {p : Position} {h : Line} {f : Frame} {g : Line} {L k t : ℕ} {m b : List ℕ} → Complete own unit p h f m → (y : Underway own unit p g L k t b) → Within (h ▹ f) g → Within (h ▹ f) (origin y)
  once x y same = absurd (completed x _ _ _ _ y)
  once x (begins e u c) (later w) = w
  once x (passes y n) (later w) = once x y w
  once x (goes_on y n u l) (later w) = once x y w
