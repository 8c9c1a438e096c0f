-- Laws of the line at the front of a text: where it ends, and what is read of it.
use mathlib.Core.Path.{◌≡◌, refl, sym, ap, ◌∙◌, subst}
use mathlib.Core.Bool.{Bool, true, false, not, ◌&&◌, false≢true}
use mathlib.Core.List.{List, ◌∷◌, ◌++◌}
use mathlib.Core.Logic.{⊎_elim}
use Prim.Native.Nat.{ℕ, ◌+◌, ◌^◌, ◌≤◌, ◌<◌}
use native.Mathlib.Omega.{arith}
use borrow.Author.Tests.{eq-eqb, ne_eqb, eqb-true, not-false, ltb-true, ltb-false, lt-ltb, le-ltb, le-leb, leb-true}
use lib.Dec.{eqb, leb, ltb}
use lib.ListN.{length, get_or, take, drop, take-append-drop, length-append}
use lib.Seq.{take_all, length-take-le, get_or-append_seam}
use Rattle.std.specs.Prelude.{Some, None, Err, cond, position}
use Rattle.std.specs.List.{prefix_len}
use Rattle.identifiers.specs.Choice.{both}
use Rattle.identifiers.specs.Refusals.{refusal}
use Rattle.identifiers.proofs.LawsChoice.{and_is, both_true, stop, so, pick_true, pick-false}
use Rattle.text.specs.Digits.{between, is_digit}
use Rattle.text.proofs.LawsValue.{within, none_below}
use Rattle.logs.specs.Grammar.{Each, IsLine, Formed, number_of_name}
use Rattle.logs.specs.Grammar.Each.{one}
use Rattle.logs.specs.Parts.{run_length, end_of}
use Rattle.logs.specs.Lines.{end_at, begins, said, line_read}
use Rattle.logs.specs.Scans.{scanned}
use Rattle.logs.specs.Fronts.{in_line, front_end, front_read}
use Rattle.logs.specs.declared.read.Front.{Front}
use Rattle.logs.specs.declared.scan.Scanned.{Scanned}
use Rattle.logs.proofs.LawsFound.{some_picked, none_picked}
use Rattle.logs.proofs.LawsRuns.{run-le, run-prefix, run_of, run-each, run-stopped, stands, cut-byte, each_append, each-so}
use Rattle.logs.proofs.LawsLines.{scan-some, scan-none}
use Rattle.logs.proofs.LawsForms.{Form, end-length, form-begins, line-form}
use Rattle.logs.proofs.LawsBegins.{begins-line, end-near}
use Rattle.logs.proofs.ReadLines.{said-over, said-2, said-frame, line-over, line-2, line_frame, line-25}

-- what a search for a place finds
module _ (p : ℕ → Bool) (t : List ℕ) where
  abbrev place : ℕ
  place = prefix_len (λ b. not (p b)) t

  position-some : {end : ℕ} → Some end ≡ position p t → (place < length t) × (end ≡ place)
  position-some {end} e = by_place (ltb place (length t)) refl e
    where
      by_place : (b : Bool) → ltb place (length t) ≡ b → Some end ≡ cond b (Some place) None → (place < length t) × (end ≡ place)
      by_place true q f = (ltb-true _ _ q, cc)
      by_place false q f = cc

  position-none : None ≡ position p t → length t ≤ place
  position-none e = by_place (ltb place (length t)) refl e
    where
      by_place : (b : Bool) → ltb place (length t) ≡ b → None ≡ cond b (Some place) None → length t ≤ place
      by_place true q f = cc
      by_place false q f = ltb-false _ _ q

pub in-line : (b : ℕ) → (b ≡ 10 → ⊥) → in_line b ≡ true
unfolding in_line
in-line b h = ap not (ne_eqb b 10 h)

pub ends-line : (b : ℕ) → b ≡ 10 → in_line b ≡ false
unfolding in_line
ends-line b h = ap not (eq-eqb b 10 h)

is_newline : (b : ℕ) → in_line b ≡ false → b ≡ 10
unfolding in_line
is_newline b e = eqb-true _ _ (not-false _ e)

pub end_is : (t : List ℕ) → end_of in_line t 0 ≡ front_end t
unfolding end_of front_end
end_is t = omega arith

-- ---- where the front line ends
pub front-le : (t : List ℕ) → front_end t ≤ length t
unfolding front_end
front-le t = run-le in_line t

-- the bytes before a newline that is the first
pub front_of : (l rest : List ℕ) → Each in_line l → front_end (l ++ (10 ∷ rest)) ≡ length l
unfolding front_end
front_of l rest h = run_of in_line l 10 rest h (ends-line 10 refl)

pub front-in-line : (t : List ℕ) → Each in_line (take (front_end t) t)
unfolding front_end
front-in-line t = run-each in_line t

pub front_cut : (t : List ℕ) → front_end t < length t → t ≡ take (front_end t) t ++ (10 ∷ drop (front_end t + 1) t)
unfolding front_end
front_cut t h =
    let b : get_or t (run_length in_line t) 0 ≡ 10 = is_newline _ (run-stopped in_line t h) in
    sym (take-append-drop (run_length in_line t) t) ∙ ap (λ (y : List ℕ). take (run_length in_line t) t ++ y) (cut-byte t (run_length in_line t) b (omega arith))

pub front-all : (t : List ℕ) → length t ≤ front_end t → Each in_line t
front-all t h = rw (take_all (front_end t) t h) at (front-in-line t)

-- ---- a line that has the form has no newline in it
pub line-in-line : {l seconds micros blanks interface name digits : List ℕ} → IsLine l seconds micros blanks interface name digits → Each in_line l
line-in-line {l} {seconds} {micros} {blanks} {interface} {name} {digits} is =
    let m = is.made in
    let digit : (base : ℕ) → base ≤ 16 → (b : ℕ) → is_digit base b ≡ true → in_line b ≡ true =
    λ base (h : base ≤ 16) b q. in-line b (λ (e : b ≡ 10). false≢true (sym (none_below base 10 h (omega arith)) ∙ ap (is_digit base) (sym e) ∙ q)) in
    let sign : (low high : ℕ) → 10 < low → (b : ℕ) → between low high b ≡ true → in_line b ≡ true =
    λ low high (h : 10 < low) b q. in-line b (λ (e : b ≡ 10). omega (arith, within low high b q)) in
    let byte : (b : ℕ) → 10 < b → in_line b ≡ true = λ b (h : 10 < b). in-line b (λ e. omega arith) in
    rw is.whole
    (one (byte 40 (omega arith))
    (each_append seconds _ (each-so (digit 10 (omega arith)) seconds m.seconds_digits)
    (one (byte 46 (omega arith))
    (each_append micros _ (each-so (digit 10 (omega arith)) micros m.micros_digits)
    (one (byte 41 (omega arith))
    (each_append blanks _ (each-so (sign 32 32 (omega arith)) blanks m.blanks_blank)
    (each_append interface _ (each-so (sign 33 126 (omega arith)) interface m.interface_shown)
    (one (byte 32 (omega arith))
    (each_append name _ (each-so (digit 16 (omega arith)) name m.name_digits)
    (one (byte 35 (omega arith)) (each-so (digit 16 (omega arith)) digits m.data_digits)))))))))))

-- where the code looks for a newline
pub newline-found : (t : List ℕ) {end : ℕ} → Some end ≡ position (λ b. eqb b 10) t → (front_end t < length t) × (end ≡ front_end t)
unfolding front_end in_line
newline-found t e = rw run-prefix at (position-some (λ b. eqb b 10) t e)

pub newline-none : (t : List ℕ) → None ≡ position (λ b. eqb b 10) t → length t ≤ front_end t
unfolding front_end in_line
newline-none t e = rw run-prefix at (position-none (λ b. eqb b 10) t e)

-- ---- what is read of the front line
module _ (t : List ℕ) where
  front-whole : front_end t < length t → front_read t ≡ Some (record { next = front_end t + 1; line = line_read (take (front_end t) t) })
  unfolding front_read
  front-whole h = pick_true _ _ (lt-ltb _ _ h)

  pub front-begun : length t ≤ front_end t → front_read t ≡ None
  unfolding front_read
  front-begun h = pick-false _ _ (le-ltb _ _ h)

  -- a text that begins with a line's parts, and a newline right behind them
  module _ (e : begins t ≡ true) (n : get_or t (end_at t) 0 ≡ 10) (h : end_at t ≤ 255) where
    newline-next : drop (end_at t) t ≡ 10 ∷ drop (end_at t + 1) t
    newline-next = cut-byte t (end_at t) n (omega arith)

    -- that is where the front line ends
    pub sound-end : front_end t ≡ end_at t
    sound-end =
        let c : t ≡ take (end_at t) t ++ (10 ∷ drop (end_at t + 1) t) = sym (take-append-drop (end_at t) t) ∙ ap (λ (y : List ℕ). take (end_at t) t ++ y) newline-next in
        ap front_end c ∙ front_of (take (end_at t) t) _ (line-in-line (begins-line t e h).is) ∙ length-take-le (end_at t) t (end-near t e)

    -- and it is read as the parts say
    pub sound-said : line_read (take (end_at t) t) ≡ said t
    sound-said = ⊎_elim (λ (z : length a.name ≡ 3). line-over a z ∙ sym (said-over f stops z)) (λ (z : length a.name ≡ 8). by_number z (ltb (number_of_name a.name) (2 ^ 29)) refl) a.is.made.name_size
      where
        a : Formed (take (end_at t) t)
        a = begins-line t e h

        f : Form t a.seconds a.micros a.blanks a.interface a.name a.digits (drop (end_at t) t)
        f = subst (λ (y : List ℕ). Form y a.seconds a.micros a.blanks a.interface a.name a.digits (drop (end_at t) t)) (take-append-drop (end_at t) t) (line-form a.is (drop (end_at t) t))

        stops : is_digit 16 (get_or (drop (end_at t) t) 0 0) ≡ false
        stops = ap (λ (y : List ℕ). is_digit 16 (get_or y 0 0)) newline-next ∙ none_below 16 10 (omega arith) (omega arith)

        by_number : length a.name ≡ 8 → (b : Bool) → ltb (number_of_name a.name) (2 ^ 29) ≡ b → line_read (take (end_at t) t) ≡ said t
        by_number z true q = let g = ltb-true _ _ q in line_frame a z g ∙ sym (said-frame f stops z g)
        by_number z false q = let g = ltb-false _ _ q in line-2 a z g ∙ sym (said-2 f stops z g)

  -- where no such parts stand at the front, the front line is malformed
  pub front-malformed : both (begins t) (both (eqb (get_or t (end_at t) 0) 10) (leb (end_at t) 255)) ≡ false → front_end t < length t → line_read (take (front_end t) t) ≡ Err (refusal 25)
  front-malformed q h = line-25 (take (front_end t) t) (λ a. false≢true (sym q ∙ sound a))
    where
      sound : Formed (take (front_end t) t) → both (begins t) (both (eqb (get_or t (end_at t) 0) 10) (leb (end_at t) 255)) ≡ true
      sound a =
          let l = take (front_end t) t in
          let rest = drop (front_end t + 1) t in
          let c : t ≡ l ++ (10 ∷ rest) = front_cut t h in
          let f : Form t a.seconds a.micros a.blanks a.interface a.name a.digits (10 ∷ rest) =
          subst (λ (y : List ℕ). Form y a.seconds a.micros a.blanks a.interface a.name a.digits (10 ∷ rest)) (sym c) (line-form a.is (10 ∷ rest)) in
          let n : end_at t ≡ length l = omega (arith, end-length f (none_below 16 10 (omega arith) (omega arith)), ap length c, length-append l (10 ∷ rest)) in
          let b : get_or t (end_at t) 0 ≡ 10 = ap (λ (k : ℕ). get_or t k 0) n ∙ ap (λ (y : List ℕ). get_or y (length l) 0) c ∙ get_or-append_seam l 10 rest 0 in
          sym (so (form-begins f) (so (eq-eqb _ _ b) (sym (le-leb (end_at t) 255 (omega (arith, n, a.is.short))))))

  -- ---- as the code asks it
  -- the front line is sound: it ends where its parts end
  abbrev pub sound_line : Bool
  sound_line = both (begins t) (both (eqb (get_or t (end_at t) 0) 10) (leb (end_at t) 255))

  pub not_sound : None ≡ scanned t → sound_line ≡ false
  not_sound e = sym (stop _ (scan-none t e))

  module _ {s : Scanned} {x : ℕ} (e : Some s ≡ scanned t) (b : x ≡ get_or t s.end 0) where
    pub front-test : (eqb x 10 && leb s.end 255) ≡ sound_line
    front-test =
        let f = scan-some t e in
        rw b (and_is _ _ ∙ ap (λ (y : Scanned). both (eqb (get_or t y.end 0) 10) (leb y.end 255)) f.1 ∙ so f.0 refl)

    pub read-sound : (eqb x 10 && leb s.end 255) ≡ true → Some (record { next = s.end + 1; line = s.line }) ≡ front_read t
    read-sound q =
        let r = both_true _ _ (sym front-test ∙ q) in
        let w = both_true _ _ r.1 in
        let n : get_or t (end_at t) 0 ≡ 10 = eqb-true _ _ w.0 in
        let h : end_at t ≤ 255 = leb-true _ _ w.1 in
        let k : front_end t ≡ end_at t = sound-end r.0 n h in
        let f = (scan-some t e).1 in
        let p : s.end ≡ front_end t = ap (λ (y : Scanned). y.end) f ∙ sym k in
        let g : s.line ≡ line_read (take (front_end t) t) = ap (λ (y : Scanned). y.line) f ∙ sym (sound-said r.0 n h) ∙ ap (λ (i : ℕ). line_read (take i t)) (sym k) in
        rw (p, g) (sym (front-whole (omega (arith, k, stands t (end_at t) n (omega arith)))))

  pub read-malformed : {end : ℕ} → sound_line ≡ false → Some end ≡ position (λ b. eqb b 10) t → Some (record { next = end + 1; line = Err (refusal 25) }) ≡ front_read t
  read-malformed {end} q e =
      let f = newline-found t e in
      rw (f.1, ← front-malformed q f.0) (sym (front-whole f.0))

  pub read-begun : None ≡ position (λ b. eqb b 10) t → None ≡ front_read t
  read-begun e = sym (front-begun (newline-none t e))

  -- ---- what the answer says of the text
  pub record Ended (f : Front) : Type 0 where
    pub inside : front_end t < length t
    pub behind : f.next ≡ front_end t + 1
    pub reads : f.line ≡ line_read (take (front_end t) t)

  pub front-ended : {f : Front} → Some f ≡ front_read t → Ended f
  unfolding front_read
  front-ended {f} e =
      let w = some_picked _ e in
      record { inside = ltb-true _ _ w.0; behind = ap (λ (g : Front). g.next) w.1; reads = ap (λ (g : Front). g.line) w.1 }

  pub front-open : None ≡ front_read t → Each in_line t
  unfolding front_read
  front-open e = front-all t (ltb-false _ _ (none_picked _ _ e))
