-- `mend` meets its contract: at each turn what stands in both arrays and what is left to put are the whole; at the end the open stretch is left.
use mathlib.Core.Path.{◌≡◌, sym, ap, ◌∙◌}
use mathlib.Core.Bool.{Bool, true}
use mathlib.Core.List.{List}
use Prim.Native.Nat.{ℕ, ◌-◌}
use native.Mathlib.Omega.{arith}
use lib.ListN.{length, take, drop, length-drop}
use lib.Seq.{length-take-le, take_all}
use Rattle.identifiers.specs.Bytes.{Puts}
use Rattle.text.proofs.LawsPutting.{put-fits}
use Rattle.mending.specs.Pieces.{begins, mended}
use Rattle.mending.specs.Listed.{stretch_lines}
use Rattle.mending.proofs.LawsWalk.{begins-whole}
use Rattle.mending.proofs.LawsListed.{lines_fit}
use Rattle.mending.proofs.LawsGoing.{going-first, going_drop, going-keep}
use Rattle.mending.proofs.LawsMended.{mended-length, mends-not, kept-room, list-room, last-room, all-kept, all_listed, mends-both}
use Rattle.mending.proofs.walk.mend.Goals as goal

-- the rest that the code looks at is what lies ahead
rest-is : (s : List ℕ) (at : ℕ) → take (length s - at) (drop at s) ≡ drop at s
rest-is s at = take_all (length s - at) (drop at s) (omega (arith, length-drop at s))

-- a reading begins where the code keeps one
begins-there : (s : List ℕ) (at : ℕ) {b : Bool} → b ≡ begins (take (length s - at) (drop at s)) → b ≡ true → begins (drop at s) ≡ true
begins-there s at e kept = ap begins (sym (rest-is s at)) ∙ sym e ∙ kept

-- at the end both texts stand
keeps : (c : goal.After-put_stretch-last) → Puts c.args.kept.now 0 (mended c.args.input.now) c.loop-at.end c.loop-at.kept
keeps c = all-kept c.loop-at.invariant c.if-input-gt-MOST_INPUT.false c.loop-at-test.false

lists : (c : goal.After-put_stretch-last) → Puts c.args.page.now 0 (stretch_lines c.args.input.now) c.put_stretch-last.result c.put_stretch-last.new.page
lists c = all_listed c.loop-at.invariant c.if-input-gt-MOST_INPUT.false c.loop-at-test.false c.put_stretch-last.ensures

pub loop-at-preserved-then-begins : goal.loop-at-preserved-then-begins
loop-at-preserved-then-begins c =
    let inv = c.loop-at.invariant in
    let e = begins-there c.args.input.now c.loop-at.at c.begins.ensures c.if-begins.true in
    let fits = kept-room inv c.if-input-gt-MOST_INPUT.false (omega arith) e in
    going-keep inv e c.put_stretch-listed.ensures (put-fits fits (rw (rest-is c.args.input.now c.loop-at.at) at c.put-end.ensures))

pub returns-then-input-gt-MOST_INPUT : goal.returns-then-input-gt-MOST_INPUT
returns-then-input-gt-MOST_INPUT c = mends-not _ _ _ c.if-input-gt-MOST_INPUT.true

pub loop-at-init : goal.loop-at-init
loop-at-init c = going-first _ _ _

pub put_stretch-listed-requires : goal.put_stretch-listed-requires
put_stretch-listed-requires c =
    list-room c.loop-at.invariant c.if-input-gt-MOST_INPUT.false (omega arith) (begins-there c.args.input.now c.loop-at.at c.begins.ensures c.if-begins.true)

pub slice_bounds-put-end-then-begins : goal.slice_bounds-put-end-then-begins
slice_bounds-put-end-then-begins c =
    let input = c.args.input.now in
    let rest = take (length input - c.loop-at.at) (drop c.loop-at.at input) in
    let whole = begins-whole (drop c.loop-at.at input) (begins-there c.args.input.now c.loop-at.at c.begins.ensures c.if-begins.true) in
    sym (length-take-le 17 rest (omega (arith, whole, ap length (rest-is input c.loop-at.at))))

pub loop-at-preserved : goal.loop-at-preserved
loop-at-preserved c =
    let input = c.args.input.now in
    going_drop c.loop-at.invariant c.loop-at-test.true
    (ap begins (sym (rest-is input c.loop-at.at)) ∙ sym c.begins.ensures ∙ c.if-begins.false)

pub put_stretch-last-requires : goal.put_stretch-last-requires
put_stretch-last-requires c =
    last-room c.loop-at.invariant c.if-input-gt-MOST_INPUT.false (omega arith) c.loop-at-test.false

pub overflow_cast-result : goal.overflow_cast-result
overflow_cast-result c = omega (arith, (keeps c).ends, c.if-input-gt-MOST_INPUT.false, mended-length c.args.input.now)

pub overflow_cast-result-2 : goal.overflow_cast-result-2
overflow_cast-result-2 c = omega (arith, (lists c).ends, lines_fit c.args.input.now c.if-input-gt-MOST_INPUT.false)

pub returns : goal.returns
returns c = mends-both c.if-input-gt-MOST_INPUT.false (keeps c) (lists c)
