-- `main` shows what `send` asks: the bytes written are the definition's text of the numbers.
use Rattle.text.proofs.LawsPutting.{put-stands}
use Rattle.trial.proofs.main.Goals as goal

pub send-requires : goal.send-requires
send-requires c = put-stands c.compose-end.ensures.upper_bound c.compose-end.ensures.puts
