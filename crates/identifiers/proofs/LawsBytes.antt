-- Laws of bytes put into a buffer: what stands there, before and behind; the first run, then the next one; a loop that copies; a loop that puts f 0, f 1, ..
use mathlib.Core.Path.{◌≡◌, refl, sym, ap, ap₂, ◌∙◌}
use mathlib.Core.List.{List, [], ◌∷◌, ◌++◌, append-nil, append_assoc}
use Prim.Native.Nat.{ℕ, suc, ◌+◌, ◌≤◌, ◌<◌}
use native.Mathlib.Nat.{zero-add}
use native.Mathlib.Numerals.{add-one}
use native.Mathlib.Omega.{arith}
use lib.ListN.{length, get_or, take, drop, set, length-set, length-append, take-append-drop}
use lib.Seq.{take-suc, take-suc-set, take-set-le, drop-set-lt, drop_at, drop-drop}
use borrow.Rule.Slice.PartMut.{put_mid}
use Rattle.identifiers.specs.Below.{list_below}
use Rattle.identifiers.specs.Bytes.{written, Puts}
use Rattle.identifiers.proofs.LawsBelow.{list-more, list_same}

-- ---- written
pub written_none : (buffer : List ℕ) (at : ℕ) → written buffer at [] ≡ buffer
unfolding written
written_none buffer at = refl

pub length-written : (buffer : List ℕ) (at : ℕ) (bytes : List ℕ) → length (written buffer at bytes) ≡ length buffer
unfolding written
length-written buffer at [] = refl
length-written buffer at (b ∷ bytes) = length-written (set buffer at b) (at + 1) bytes ∙ length-set buffer at b

pub written-append : (buffer : List ℕ) (at : ℕ) (xs ys : List ℕ) → written buffer at (xs ++ ys) ≡ written (written buffer at xs) (at + length xs) ys
unfolding written
written-append buffer at [] ys = ap (λ (k : ℕ). written buffer k ys) (omega arith)
written-append buffer at (a ∷ xs) ys = written-append (set buffer at a) (at + 1) xs ys ∙ ap (λ (k : ℕ). written (written (set buffer at a) (at + 1) xs) k ys) (omega arith)

pub written_behind : (a : ℕ) (buffer : List ℕ) (at : ℕ) (bytes : List ℕ) → written (a ∷ buffer) (suc at) bytes ≡ a ∷ written buffer at bytes
unfolding written
written_behind a buffer at [] = refl
written_behind a buffer at (b ∷ bytes) = ap (λ (k : ℕ). written (a ∷ set buffer at b) k bytes) (omega arith) ∙ written_behind a (set buffer at b) (at + 1) bytes

-- up to the end of the bytes: what stood before them, and they
pub take-written : (buffer : List ℕ) (at : ℕ) (bytes : List ℕ) → at + length bytes ≤ length buffer → take (at + length bytes) (written buffer at bytes) ≡ take at buffer ++ bytes
unfolding written
take-written buffer at [] h = let e : at + 0 ≡ at = omega arith in ap (λ (n : ℕ). take n buffer) e ∙ sym (append-nil (take at buffer))
take-written buffer at (b ∷ bytes) h =
    let l : at + 1 + length bytes ≤ length (set buffer at b) = rw length-set (omega arith) in
    let e : at + length (b ∷ bytes) ≡ at + 1 + length bytes = omega arith in
    ap (λ (n : ℕ). take n (written (set buffer at b) (at + 1) bytes)) e
    ∙ take-written (set buffer at b) (at + 1) bytes l
    ∙ ap (λ (n : ℕ). take n (set buffer at b) ++ bytes) (add-one at)
    ∙ ap (λ (l : List ℕ). l ++ bytes) (take-suc-set buffer at b (omega arith))
    ∙ append_assoc (take at buffer) (b ∷ []) bytes

-- what stands before the bytes, and what stands behind them: as it was
pub front-stays : (buffer : List ℕ) (at : ℕ) (bytes : List ℕ) (n : ℕ) → n ≤ at → take n (written buffer at bytes) ≡ take n buffer
unfolding written
front-stays buffer at [] n h = refl
front-stays buffer at (b ∷ bytes) n h = front-stays (set buffer at b) (at + 1) bytes n (omega arith) ∙ take-set-le n buffer at b h

pub back-stays : (buffer : List ℕ) (at : ℕ) (bytes : List ℕ) (n : ℕ) → at + length bytes ≤ n → drop n (written buffer at bytes) ≡ drop n buffer
unfolding written
back-stays buffer at [] n h = refl
back-stays buffer at (b ∷ bytes) n h = back-stays (set buffer at b) (at + 1) bytes n (omega arith) ∙ drop-set-lt n buffer at b (omega arith)

pub drop-written : (buffer : List ℕ) (at : ℕ) (bytes : List ℕ) → drop (at + length bytes) (written buffer at bytes) ≡ drop (at + length bytes) buffer
drop-written buffer at bytes = back-stays buffer at bytes (at + length bytes) (omega arith)

-- a text copied over the part of the buffer from the place on
pub part-written : (buffer : List ℕ) (at k : ℕ) (text ys : List ℕ) → at + length text ≤ length buffer → k ≡ length text → ys ≡ text → put_mid at k buffer ys ≡ written buffer at text
part-written buffer at k text ys h e q =
    ap₂ (λ (l m : List ℕ). take at buffer ++ (l ++ m)) q (drop-drop k at buffer ∙ ap (λ (n : ℕ). drop n buffer) (omega arith))
    ∙ sym (append_assoc (take at buffer) text (drop (at + length text) buffer))
    ∙ ap₂ ◌++◌ (sym (take-written buffer at text h)) (sym (drop-written buffer at text))
    ∙ take-append-drop (at + length text) (written buffer at text)

-- bytes from the start on: the first of them stand in front of what they do not reach, and the others go on behind
pub written-front : (old head rest bytes : List ℕ) → length old ≡ length head → written (old ++ rest) 0 (head ++ bytes) ≡ written (head ++ rest) (length head) bytes
written-front old head rest bytes e =
    let whole : 0 + length head ≤ length (old ++ rest) = rw length-append (omega arith) in
    let front : take (length head) (written (old ++ rest) 0 head) ≡ head = rw zero-add at (take-written (old ++ rest) 0 head whole) in
    let behind : drop (length head) (written (old ++ rest) 0 head) ≡ rest = (rw zero-add at (drop-written (old ++ rest) 0 head)) ∙ drop_at old rest (length head) e in
    written-append (old ++ rest) 0 head bytes
    ∙ ap (λ (l : List ℕ). written l (0 + length head) bytes) (sym (take-append-drop (length head) (written (old ++ rest) 0 head)) ∙ ap₂ ◌++◌ front behind)
    ∙ ap (λ (k : ℕ). written (head ++ rest) k bytes) (omega arith)

-- ---- Puts
pub puts_none : (buffer : List ℕ) (at : ℕ) → Puts buffer at [] at buffer
unfolding written
puts_none buffer at = record { ends = omega arith; holds = refl }

pub puts-byte : (buffer : List ℕ) (at b : ℕ) → Puts buffer at (b ∷ []) (at + 1) (set buffer at b)
unfolding written
puts-byte buffer at b = record { ends = refl; holds = refl }

pub ruleset byte_rules = (puts-byte)

-- the same bytes, said otherwise
pub puts-as : {a b xs ys : List ℕ} {at end : ℕ} → Puts a at xs end b → xs ≡ ys → Puts a at ys end b
puts-as p e = rw e at p

-- what is put in two runs, one after the other
infixl 10 ◌▸◌
pub ◌▸◌ : {a b c xs ys : List ℕ} {at mid end : ℕ} → Puts a at xs mid b → Puts b mid ys end c → Puts a at (xs ++ ys) end c
◌▸◌ {a} {b} {c} {xs} {ys} {at} p q =
    record {
      ends = omega (arith, p.ends, q.ends, length-append xs ys);
      holds = q.holds ∙ ap (λ (k : ℕ). written b k ys) p.ends ∙ ap (λ (l : List ℕ). written l (at + length xs) ys) p.holds ∙ sym (written-append a at xs ys);
    }

pub keeps-length : {a b bytes : List ℕ} {at end : ℕ} → Puts a at bytes end b → length b ≡ length a
keeps-length {a} {b} {bytes} {at} p = ap length p.holds ∙ length-written a at bytes

-- what was put from the start on stands there
pub puts_whole : {a b bytes : List ℕ} {end : ℕ} → length bytes ≤ length a → Puts a 0 bytes end b → take end b ≡ bytes
puts_whole {a} {b} {bytes} h p = ap (λ (n : ℕ). take n b) p.ends ∙ ap (λ (l : List ℕ). take (0 + length bytes) l) p.holds ∙ take-written a 0 bytes (omega arith)

-- what stands behind what was put is as it was
pub puts-rest : {a b bytes : List ℕ} {at end : ℕ} → Puts a at bytes end b → drop end b ≡ drop end a
puts-rest {a} {b} {bytes} {at} p = rw (p.ends, p.holds) (drop-written a at bytes)

-- ---- loops
-- a loop that copies a text byte by byte: one byte more
pub copy_more : {a b : List ℕ} (text : List ℕ) (at i : ℕ) → i < length text → Puts a at (take i text) (at + i) b
    → Puts a at (take (i + 1) text) (at + (i + 1)) (set b (at + i) (get_or text i 0))
copy_more {a} {b} text at i l h =
    let p = h ▸ (puts-byte b (at + i) (get_or text i 0)) in
    let e : take (i + 1) text ≡ take i text ++ (get_or text i 0 ∷ []) = ap (λ (k : ℕ). take k text) (add-one i) ∙ take-suc text i 0 l in
    record { ends = omega (arith, p.ends, ap length e); holds = p.holds ∙ ap (written a at) (sym e) }

-- a loop that puts f k: a turn that puts it, and one in which it is nothing
pub turn : (f : ℕ → List ℕ) (k : ℕ) {a b c bytes : List ℕ} {at mid end : ℕ} → Puts a at (list_below f k) mid b → bytes ≡ f k → Puts b mid bytes end c
    → Puts a at (list_below f (k + 1)) end c
turn f k p e q = rw (list-more f k) (p ▸ (rw e at q))

pub turn-none : (f : ℕ → List ℕ) (k : ℕ) {a b : List ℕ} {at mid : ℕ} → Puts a at (list_below f k) mid b → f k ≡ [] → Puts a at (list_below f (k + 1)) mid b
turn-none f k p e = rw (list_same f k e) p
