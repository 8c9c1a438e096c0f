-- An import, proved: each statement of `Imports`.
use mathlib.Core.Path.{◌≡◌, refl, ap, ◌∙◌}
use mathlib.Core.Bool.{Bool, true, false}
use mathlib.Core.List.{List, [], ◌∷◌, ◌++◌}
use Prim.Native.Nat.{ℕ, ◌+◌}
use native.Mathlib.Omega.{arith}
use lib.Dec.{eqb}
use lib.ListN.{length, length-take}
use Rattle.identifiers.specs.Choice.{pick}
use Rattle.receiver.specs.Frames.{Frame}
use Rattle.trains.specs.Sequences.{Line, start, ◌▹◌, size}
use Rattle.trains.specs.Runs.{requests}
use Rattle.trains.proofs.Demand3.{requests-are-the-reading}
use Rattle.trains.proofs.LawsSequences.{size_none, size-more}
use Rattle.logs.specs.Lines.{line_read}
use Rattle.logs.specs.Written.{line_text}
use Rattle.logs.proofs.RoundTrip.{eight-back, written-imports as reads-written, written-in-line, frame-writable}
use Rattle.importing.specs.Logs.{LogRead, begun, stamped, refused_at, took_frame, took_line, going, holding, took_byte, took, at_end, imported}
use Rattle.importing.specs.Lines.{Accepted, no_line, frame_first, over_first, frames_behind, frames_among, over_among}
use Rattle.importing.specs.Imports.{SomeLines, OneCutting, OneOfBoth, FramesInOrder, EveryLineCounted, FirstBadLine, InPieces, RefusedStays, LongStays}
use Rattle.importing.specs.Imports.{Writable, AllWritable, no_frame, one_more, exported, WrittenImports, ImportedWritable, DemandThreeReads, SameRequests}
use Rattle.importing.proofs.LawsLogs.{goes_on, stops, took-append, took-stops, at-end-none}
use Rattle.importing.proofs.LawsCuts.{one_list, some-list, accepted-or-bad, never_both}
use Rattle.importing.proofs.LawsTaken.{reading, took-frame, took-accepted, took-bad, ended, long-ends}
use Rattle.std.specs.Prelude.{Some, None, Ok, Err}
use Rattle.logs.specs.Outcomes.{LineRead, data_bytes}
use Rattle.logs.specs.declared.answer.LogFrame.{LogFrame}

-- ---- lines
pub some-lines : SomeLines
some-lines log = some-list log

pub one-cutting : OneCutting
one-cutting log ls ks a b = one_list a b

pub one-of-both : OneOfBoth
one-of-both ls = (accepted-or-bad ls, λ a n why b. never_both a b)

-- ---- what is imported
pub frames-in-order : FramesInOrder
frames-in-order log ls x a =
    let e = ended x in
    let n : 0 + length ls ≡ length ls = omega arith in
    let f : 0 + frames_among a ≡ frames_among a = omega arith in
    let p : 0 + over_among a ≡ over_among a = omega arith in
    e.same ∙ took-accepted e.cut a 0 0 0 start ∙ λ i. reading (n i) (f i) (p i) (frames_behind start a)

lines-are-counted : {ls : List (List ℕ)} (a : Accepted ls) → frames_among a + over_among a ≡ length ls
unfolding frames_among over_among
lines-are-counted no_line = refl
lines-are-counted (frame_first e a) = omega (arith, lines-are-counted a)
lines-are-counted (over_first e a) = omega (arith, lines-are-counted a)

size-behind : {ls : List (List ℕ)} (h : Line) (a : Accepted ls) → size (frames_behind h a) ≡ size h + frames_among a
unfolding frames_behind frames_among
size-behind h no_line = omega arith
size-behind h (frame_first {f} e a) = omega (arith, size-behind (h ▹ stamped f) a, size-more h (stamped f))
size-behind h (over_first e a) = size-behind h a

pub every-line-counted : EveryLineCounted
every-line-counted ls a = (lines-are-counted a, omega (arith, size-behind start a, size_none))

pub first-bad-line : FirstBadLine
first-bad-line log ls x n why b =
    let e = ended x in
    let m : 0 + (length b.front + 1) ≡ n = omega (arith, b.number) in
    e.same ∙ took-bad b.bad b.more why e.cut b.before b.are b.refuses 0 0 0 start ∙ ap (λ (k : ℕ). refused_at k why) m

-- ---- pieces
pub in_pieces : InPieces
in_pieces r a b = took-append r a b

pub refused-stays : RefusedStays
unfolding imported
refused-stays log more why e = ap at_end (took-append begun log more ∙ took-stops (took begun log) more (stops e))

pub long-stays : LongStays
unfolding imported
long-stays log more e h = ap at_end (took-append begun log more) ∙ long-ends (took begun log) more (goes_on e) h

-- ---- written, and imported again
-- the frame that its line is read as
abbrev read_back : Frame → LogFrame
read_back f = record { identifier = f.identifier; stamp = f.stamp; «data» = data_bytes f.bytes }

stamped-back : (f : Frame) → stamped (read_back f) ≡ f
unfolding stamped
stamped-back f = rw (eight-back f.bytes)

took-exported : (h : Line) → AllWritable h → took begun (exported h) ≡ reading (size h) (size h) 0 h
unfolding took exported
took-exported start no_frame = rw size_none
took-exported (h ▹ f) (one_more a w) =
    let n : size h + 1 ≡ size (h ▹ f) = omega (arith, size-more h f) in
    took-append begun (exported h) (line_text f.identifier f.bytes f.stamp ++ (10 ∷ []))
    ∙ ap (λ (r : LogRead). took r (line_text f.identifier f.bytes f.stamp ++ (10 ∷ []))) (took-exported h a)
    ∙ took-frame (size h) (size h) 0 h _ [] (written-in-line f.identifier f.bytes f.stamp w.range w.few w.bytes w.small) (reads-written f.identifier f.bytes f.stamp w.range w.few w.bytes w.small)
    ∙ λ i. reading (n i) (n i) 0 (h ▹ stamped-back f i)

pub written-imports : WrittenImports
unfolding imported
written-imports h a = ap at_end (took-exported h a) ∙ at-end-none (reading (size h) (size h) 0 h) refl

-- ---- imported, and fit to be written
frame-kept : (l : List ℕ) (f : LogFrame) → line_read l ≡ Ok (Some f) → Writable (stamped f)
unfolding stamped
frame-kept l f e = let w = frame-writable l f e in record { range = w.range; few = simp length-take (omega (arith, w.few)); bytes = w.each; small = w.small }

line_kept : (r : LogRead) → AllWritable r.sequence → AllWritable (took_line r).sequence
unfolding took_line took_frame
line_kept r a = by_answer (line_read r.held) refl
  where
    by_answer : (t : LineRead) → line_read r.held ≡ t → AllWritable (took_frame r t).sequence
    by_answer (Ok (Some f)) e = one_more a (frame-kept r.held f e)
    by_answer (Ok None) e = a
    by_answer (Err why) e = no_frame

byte-kept : (r : LogRead) (b : ℕ) → AllWritable r.sequence → AllWritable (took_byte r b).sequence
unfolding took_byte pick
byte-kept r b a = by_answer (going r.answer) (eqb b 10)
  where
    by_answer : (s t : Bool) → AllWritable (pick s (pick t (took_line r) (holding r (r.held ++ (b ∷ [])))) r).sequence
    by_answer true true = line_kept r a
    by_answer true false = a
    by_answer false t = a

took-kept : (r : LogRead) (t : List ℕ) → AllWritable r.sequence → AllWritable (took r t).sequence
unfolding took
took-kept r [] a = a
took-kept r (b ∷ t) a = took-kept (took_byte r b) t (byte-kept r b a)

end_kept : (r : LogRead) → AllWritable r.sequence → AllWritable (at_end r).sequence
unfolding at_end pick
end_kept r a = by_answer (going r.answer) (eqb (length r.held) 0)
  where
    by_answer : (s t : Bool) → AllWritable (pick s (pick t r (took_line r)) r).sequence
    by_answer true true = a
    by_answer true false = line_kept r a
    by_answer false t = a

pub imported-writable : ImportedWritable
unfolding imported
imported-writable log = end_kept (took begun log) (took-kept begun log no_frame)

-- ---- demand 3
pub demand-three-reads : DemandThreeReads
demand-three-reads own unit x fresh log r = requests-are-the-reading own unit x fresh (imported log).sequence r

pub same-requests : SameRequests
same-requests x h a = ap (λ (r : LogRead). requests x r.sequence) (written-imports h a)
