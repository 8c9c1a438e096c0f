-- Laws of lines: every log is cut into lines, in one way; a newline ends the last line; lines are all accepted, or there is a first bad one.
use mathlib.Core.Path.{◌≡◌, refl, sym, ap, ap₂}
use mathlib.Core.Bool.{Bool, true, false}
use mathlib.Core.List.{List, [], ◌∷◌, ◌++◌, append_assoc}
use mathlib.Core.Logic.{◌⊎◌, inl, inr}
use Prim.Native.Nat.{ℕ, ◌+◌}
use native.Mathlib.Omega.{arith}
use borrow.Author.Tests.{eqb-true, eqb-false}
use lib.Dec.{eqb}
use Rattle.identifiers.specs.declared.refusal.Refusal.{Refusal}
use Rattle.logs.specs.Grammar.{Each}
use Rattle.logs.specs.Grammar.Each.{none, one}
use Rattle.logs.specs.Fronts.{in_line}
use Rattle.logs.specs.Lines.{line_read}
use Rattle.logs.proofs.LawsFronts.{in-line}
use Rattle.importing.specs.Lines.{Cut, rest_only, line_first, counted, LinesOf, lines_are, Accepted, no_line, frame_first, over_first}
use Rattle.importing.specs.Imports.{FirstBad}
use Rattle.importing.proofs.LawsLogs.{not-newline}
use Rattle.std.specs.Prelude.{Some, None, Ok, Err}
use Rattle.logs.specs.Outcomes.{LineRead}

-- ---- a newline stands in no line
none_inside : {rest : List ℕ} (l log : List ℕ) → Each in_line rest → rest ≡ l ++ (10 ∷ log) → ⊥
none_inside [] log none e = let z : ◌≡◌ {A = ℕ} 0 1 = cc in omega arith
none_inside (b ∷ l) log none e = let z : ◌≡◌ {A = ℕ} 0 1 = cc in omega arith
none_inside [] log (one {b = c} {bs} h hs) e = let i : c ≡ 10 = cc in not-newline c h i
none_inside (b ∷ l) log (one {b = c} {bs} h hs) e = let i : bs ≡ l ++ (10 ∷ log) = cc in none_inside l log hs i

one-front : {l k : List ℕ} (s t : List ℕ) → Each in_line l → Each in_line k → l ++ (10 ∷ s) ≡ k ++ (10 ∷ t) → (l ≡ k) × (s ≡ t)
one-front s t none none e = (refl, cc)
one-front s t none (one {b = c} {bs} h hs) e = let i : c ≡ 10 = cc in absurd (not-newline c h i)
one-front s t (one {b = c} {bs} h hs) none e = let i : c ≡ 10 = cc in absurd (not-newline c h i)
one-front s t (one {b} {bs} h hs) (one {b = c} {bs = cs} k ks) e =
    let i : b ≡ c = cc in
    let j : bs ++ (10 ∷ s) ≡ cs ++ (10 ∷ t) = cc in
    let d = one-front s t hs ks j in
    (ap₂ {A = ℕ} ◌∷◌ i d.0, d.1)

-- ---- the cut is one
pub one-cut : {a b : List ℕ} {ls ks : List (List ℕ)} {x y : List ℕ} → Cut a ls x → Cut b ks y → a ≡ b → (ls ≡ ks) × (x ≡ y)
one-cut (rest_only h) (rest_only k) e = (refl, e)
one-cut (rest_only h) (line_first {l} {log} k d) e = absurd (none_inside l log h e)
one-cut (line_first {l} {log} k d) (rest_only h) e = absurd (none_inside l log h (sym e))
one-cut (line_first {l} {log = s} h c) (line_first {l = k} {log = t} i d) e =
    let f = one-front s t h i e in
    let g = one-cut c d f.1 in
    (ap₂ {A = List ℕ} ◌∷◌ f.0 g.0, g.1)

pub one_list : {log : List ℕ} {ls ks : List (List ℕ)} → LinesOf log ls → LinesOf log ks → ls ≡ ks
one_list (lines_are c) (lines_are d) = let i = one-cut c d refl in ap₂ counted i.0 i.1

-- ---- every log is cut
abbrev SomeCut : List ℕ → Type 0
SomeCut log = (ls : List (List ℕ)) × (rest : List ℕ) × Cut log ls rest

one-byte-more : (b : ℕ) {log : List ℕ} {ls : List (List ℕ)} {rest : List ℕ} → in_line b ≡ true → Cut log ls rest → SomeCut (b ∷ log)
one-byte-more b h (rest_only {rest} k) = ([], b ∷ rest, rest_only (one h k))
one-byte-more b h (line_first {l} {log} {ls} {rest} k c) = ((b ∷ l) ∷ ls, rest, line_first (one h k) c)

pub some-cut : (log : List ℕ) → (ls : List (List ℕ)) × (rest : List ℕ) × Cut log ls rest
some-cut [] = ([], [], rest_only none)
some-cut (b ∷ log) = by_byte (eqb b 10) refl (some-cut log)
  where
    by_byte : (t : Bool) → eqb b 10 ≡ t → SomeCut log → SomeCut (b ∷ log)
    by_byte true e c = (let d : SomeCut (10 ∷ log) = ([] ∷ c.0, c.1, line_first none c.2) in rw (eqb-true b 10 e) d)
    by_byte false e c = one-byte-more b (in-line b (eqb-false b 10 e)) c.2

pub some-list : (log : List ℕ) → (ls : List (List ℕ)) × LinesOf log ls
some-list log = let c = some-cut log in (counted c.0 c.1, lines_are c.2)

-- ---- a newline behind the log ends the line that has begun
pub cut-closed : {log : List ℕ} {ls : List (List ℕ)} {rest : List ℕ} → Cut log ls rest → Cut (log ++ (10 ∷ [])) (ls ++ (rest ∷ [])) []
cut-closed (rest_only h) = line_first h (rest_only none)
cut-closed (line_first {l} {log} h c) = rw (append_assoc l (10 ∷ log) (10 ∷ [])) (line_first h (cut-closed c))

-- ---- all accepted, or a first bad one
abbrev Bad : List (List ℕ) → Type 0
Bad ls = (n : ℕ) × ((why : Refusal) × FirstBad ls n why)

one-line-more : (l : List ℕ) {ls : List (List ℕ)} → ((ks : List (List ℕ)) → Accepted ks → Accepted (l ∷ ks)) → Accepted ls ⊎ Bad ls → Accepted (l ∷ ls) ⊎ Bad (l ∷ ls)
one-line-more l more (inl a) = inl (more _ a)
one-line-more l {ls} more (inr (n, (why, b))) = inr (n + 1, (why, later))
  where
    later : FirstBad (l ∷ ls) (n + 1) why
    later =
        record {
          front = l ∷ b.front;
          bad = b.bad;
          more = b.more;
          are = ap (λ (k : List (List ℕ)). l ∷ k) b.are;
          before = more _ b.before;
          refuses = b.refuses;
          number = omega (arith, b.number);
        }

pub accepted-or-bad : (ls : List (List ℕ)) → Accepted ls ⊎ ((n : ℕ) × ((why : Refusal) × FirstBad ls n why))
accepted-or-bad [] = inl no_line
accepted-or-bad (l ∷ ls) = by_answer (line_read l) refl (accepted-or-bad ls)
  where
    first : (why : Refusal) → line_read l ≡ Err why → FirstBad (l ∷ ls) 1 why
    first why e = record { front = []; bad = l; more = ls; are = refl; before = no_line; refuses = e; number = refl }

    by_answer : (a : LineRead) → line_read l ≡ a → Accepted ls ⊎ Bad ls → Accepted (l ∷ ls) ⊎ Bad (l ∷ ls)
    by_answer (Ok (Some f)) e x = one-line-more l (λ ks. frame_first e) x
    by_answer (Ok None) e x = one-line-more l (λ ks. over_first e) x
    by_answer (Err why) e x = inr (1, (why, first why e))

bad-refuted : (front : List (List ℕ)) (bad : List ℕ) (more : List (List ℕ)) {ls : List (List ℕ)} (why : Refusal)
    → Accepted ls → ls ≡ front ++ (bad ∷ more) → line_read bad ≡ Err why → ⊥
bad-refuted [] bad more why no_line e q = let z : ◌≡◌ {A = ℕ} 0 1 = cc in omega arith
bad-refuted [] bad more why (frame_first {l} h a) e q = let i : l ≡ bad = cc in let z : ◌≡◌ {A = ℕ} 0 1 = cc in omega arith
bad-refuted [] bad more why (over_first {l} h a) e q = let i : l ≡ bad = cc in let z : ◌≡◌ {A = ℕ} 0 1 = cc in omega arith
bad-refuted (k ∷ front) bad more why no_line e q = let z : ◌≡◌ {A = ℕ} 0 1 = cc in omega arith
bad-refuted (k ∷ front) bad more why (frame_first {ls} h a) e q = let i : ls ≡ front ++ (bad ∷ more) = cc in bad-refuted front bad more why a i q
bad-refuted (k ∷ front) bad more why (over_first {ls} h a) e q = let i : ls ≡ front ++ (bad ∷ more) = cc in bad-refuted front bad more why a i q

pub never_both : {ls : List (List ℕ)} {n : ℕ} {why : Refusal} → Accepted ls → FirstBad ls n why → ⊥
never_both {why} a b = bad-refuted b.front b.bad b.more why a b.are b.refuses
