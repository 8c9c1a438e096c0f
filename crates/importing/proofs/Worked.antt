-- Worked logs: an empty one; document 02's line with its newline and without; a line passed over; a second line that is malformed.
use mathlib.Core.Path.{◌≡◌, refl, ap, ◌∙◌}
use mathlib.Core.List.{List, [], ◌∷◌, ◌++◌}
use Prim.Native.Nat.{ℕ}
use Rattle.std.specs.Prelude.{Ok}
use Rattle.identifiers.specs.Choice.{pick}
use Rattle.identifiers.specs.Refusals.{refusal}
use Rattle.receiver.specs.Frames.{Frame}
use Rattle.trains.specs.Sequences.{start, ◌▹◌}
use Rattle.text.specs.Digits.{newline}
use Rattle.logs.specs.Outcomes.{LineRead}
use Rattle.logs.proofs.Worked.{request, three_digits, odd, worked}
use Rattle.importing.specs.Logs.{LogRead, begun, stamped, refused_at, took_frame, took_line, going, holding, took_byte, took, at_end, imported}

-- document 02's frame, at 12,003 ms
abbrev pub request_frame : Frame
request_frame = record { identifier = 0x18CEC9EB; bytes = 0x05 ∷ 0x02 ∷ 0x3E ∷ 0x00 ∷ []; stamp = 12003 }

abbrev pub one_frame : LogRead
one_frame = record { held = []; lines = 1; frames = 1; passed = 0; sequence = start ▹ request_frame; answer = Ok tt }

-- behind r, the line l, by what it is read as
abbrev behind : LogRead → List ℕ → LineRead → LogRead
behind r l a = took_frame (holding r l) a

pub empty : imported [] ≡ begun
unfolding imported took at_end going pick
empty = refl

pub with_newline : imported (request ++ newline) ≡ one_frame
unfolding imported took took_byte took_line took_frame stamped at_end going pick
with_newline = ap (λ (a : LineRead). at_end (behind begun request a)) worked.request-read

pub without-newline : imported request ≡ one_frame
unfolding imported took took_byte took_line took_frame stamped at_end going pick
without-newline = ap (λ (a : LineRead). behind begun request a) worked.request-read

pub passed_over : imported (three_digits ++ newline) ≡ record { held = []; lines = 1; frames = 0; passed = 1; sequence = start; answer = Ok tt }
unfolding imported took took_byte took_line took_frame at_end going pick
passed_over = ap (λ (a : LineRead). at_end (behind begun three_digits a)) worked.three-digits-read

pub second-bad : imported (request ++ newline ++ odd ++ newline) ≡ refused_at 2 (refusal 25)
unfolding imported took took_byte took_line took_frame stamped at_end going pick
second-bad =
    ap (λ (a : LineRead). at_end (took (behind begun request a) (odd ++ newline))) worked.request-read ∙ ap (λ (a : LineRead). at_end (behind one_frame odd a)) worked.odd-read
