-- The reply in document 01's numbers: the refusal, 0 for none, and the values of each case.
use Rattle.std.specs.Prelude.{true, false, ℕ, Option, Some, None, Result, Ok, Err}
use Rattle.identifiers.specs.Refusals.{number_of}
use Rattle.identifiers.specs.declared.refusal.Refusal.{Refusal}
use Rattle.server.specs.declared.serving.ReplyTold.{ReplyTold}

unfoldable pub reply_told : Result (Option ℕ) Refusal → ReplyTold
reply_told (Err why) = record { refusal = number_of why; silent = false; length = 0 }
reply_told (Ok None) = record { refusal = 0; silent = true; length = 0 }
reply_told (Ok (Some n)) = record { refusal = 0; silent = false; length = n }
