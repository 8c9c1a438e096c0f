-- The answer to what is done or refused, in document 01's numbers.
use Rattle.std.specs.Prelude.{ℕ, Result, Ok, Err}
use Rattle.identifiers.specs.Refusals.{number_of}
use Rattle.identifiers.specs.declared.answer.AnswerTold.{AnswerTold}
use Rattle.identifiers.specs.declared.refusal.Refusal.{Refusal}

-- the refusal's number, 0 for none
abbrev pub answer_number : Result (Unit {0}) Refusal → ℕ
answer_number (Ok _) = 0
answer_number (Err why) = number_of why

unfoldable pub answer_told : Result (Unit {0}) Refusal → AnswerTold
answer_told answer = record { refusal = answer_number answer }
