-- `served_in` meets its contract: each return stands at its rung.
use mathlib.Core.Path.{◌≡◌, refl, sym, ap, ◌∙◌}
use Prim.Native.Nat.{ℕ}
use mathlib.Core.List.{List, ◌++◌}
use lib.ListN.{length, take, drop, drop_of_length-le}
use lib.Seq.{take-length}
use Rattle.std.specs.Array.{IsFirstChunk}
use Rattle.std.proofs.lemmas.List.{append-nil}
use native.Mathlib.Omega.{arith}
use Rattle.std.proofs.lemmas.Result.{err_from_is_err_and}
use Rattle.server.specs.Codes.{code_number}
use Rattle.server.specs.Requests.{service_of}
use Rattle.server.specs.declared.codes.NegativeCode.{NegativeCode}
use Rattle.server.proofs.LawsTrailer.{sound-has, checked-sound, checked-1}
use Rattle.server.proofs.LawsServer.{right-lengths, served-1, served-17, left-negatively, left-positively}
use Rattle.server.proofs.serving.served_in.Goals as goal

-- no negative code is 0
some : (code : NegativeCode) → code_number code ≡ 0 → ⊥
some NegativeCode.ServiceNotSupported e = omega arith
some NegativeCode.SubFunctionNotSupported e = omega arith
some NegativeCode.IncorrectLength e = omega arith
some NegativeCode.ResponseTooLong e = omega arith
some NegativeCode.RequestOutOfRange e = omega arith

pub returns-in_err-check : goal.returns-in_err-check
returns-in_err-check c =
    let p = err_from_is_err_and c.from_residual.result c.from_residual.ensures.1 in
    let s = checked-1 c.args.record.now c.check.ensures c.in_err-check.was in
    rw (p.1, p.2, s.1, served-1 _ _ _ _ s.0) (refl, (refl, refl))

pub returns-then-wrong_lengths : goal.returns-then-wrong_lengths
returns-then-wrong_lengths c =
    let law = served-17 _ _ c.args.functional _ (checked-sound c.args.record.now c.check.ensures c.in_ok-check.was) (sym c.wrong_lengths.ensures ∙ c.if-wrong_lengths.true) in
    rw law (refl, (refl, refl))

pub invariant_of-sound : goal.invariant_of-sound
invariant_of-sound c = record { sound = checked-sound c.args.record.now c.check.ensures c.in_ok-check.was }

pub invariant_of-received : goal.invariant_of-received
invariant_of-received c = let l = right-lengths _ _ (sym c.wrong_lengths.ensures ∙ c.if-wrong_lengths.false) in record { some = l.0; within = l.1.0 }

pub bounds-request-0 : goal.bounds-request-0
bounds-request-0 c = let l = right-lengths _ _ (sym c.wrong_lengths.ensures ∙ c.if-wrong_lengths.false) in omega (arith, l.0)

pub answer_positively-sent-requires : goal.answer_positively-sent-requires
answer_positively-sent-requires c = c.in-Ok.ensures.1

pub change-requires : goal.change-requires
change-requires c = let s = sound-has _ (checked-sound c.args.record.now c.check.ensures c.in_ok-check.was) in (s.count, s.ascend)

-- the first 255 bytes of a buffer of 255 are all of it
module _ (response : List ℕ) (room : length response ≡ 255) where
  all_of : {buffer : List ℕ} → IsFirstChunk response buffer 255 → buffer ≡ response
  all_of h = h.same ∙ ap (λ (n : ℕ). take n response) (sym room) ∙ take-length response

  rest : (bytes : List ℕ) → bytes ++ drop 255 response ≡ bytes
  rest bytes = ap (λ (l : List ℕ). bytes ++ l) (drop_of_length-le response {i = 255} (omega arith)) ∙ append-nil bytes

-- a buffer of 255 has a first 255
pub returns-in_default : goal.returns-in_default
returns-in_default c =
    let room = (right-lengths _ _ (sym c.wrong_lengths.ensures ∙ c.if-wrong_lengths.false)).1.1 in
    absurd (omega (arith, room, c.in_default.ensures.cases))

pub returns-in-Err : goal.returns-in-Err
unfolding service_of
returns-in-Err c =
    let right = sym c.wrong_lengths.ensures ∙ c.if-wrong_lengths.false in
    let room = (right-lengths _ _ right).1.1 in
    let law = left-negatively c.args.record.now _ c.args.functional c.args.response.now (checked-sound c.args.record.now c.check.ensures c.in_ok-check.was) right c.in-Err.ensures (some c.in-Err.code) in
    let e = c.answer_negatively.ensures in
    rw e.0 (law.after, (law.reply, rest c.args.response.now room _ ∙ (rw (all_of c.args.response.now room c.in-Some.ensures.cases) at e.1) ∙ law.response))

pub returns-in-Ok : goal.returns-in-Ok
returns-in-Ok c =
    let right = sym c.wrong_lengths.ensures ∙ c.if-wrong_lengths.false in
    let room = (right-lengths _ _ right).1.1 in
    let law = left-positively c.args.record.now _ c.args.functional c.args.response.now (checked-sound c.args.record.now c.check.ensures c.in_ok-check.was) right c.in-Ok.ensures.0 c.in-Ok.ensures.1 in
    let e = c.answer_positively-sent.ensures in
    rw (c.change.ensures, e.0) (law.after, (law.reply, rest c.args.response.now room _ ∙ (rw (all_of c.args.response.now room c.in-Some.ensures.cases) at e.1) ∙ law.response))
