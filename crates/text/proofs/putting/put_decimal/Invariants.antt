-- What each turn of `put_decimal` keeps.
use Rattle.text.proofs.LawsPutting.{ToPut}
use Rattle.text.proofs.putting.put_decimal.Given as goal

abbrev pub invariant-loop-place : goal.invariant-loop-place
invariant-loop-place l = ToPut l.initial.buffer l.at l.number l.buffer l.rest l.place
