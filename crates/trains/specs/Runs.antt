-- A node that is offered a sequence of frames, one after the other, by the very definitions of `receive`'s contract; and what it hands out.
use Rattle.std.specs.Prelude.{false, List, [], ◌∷◌, ◌++◌, ℕ, Result, Ok, Err}
use Rattle.identifiers.specs.declared.refusal.Refusal.{Refusal}
use Rattle.receiver.specs.declared.outcome.Outcome.{Outcome}
use Rattle.receiver.specs.declared.outcome.Outcome.TheVariants.{OverLong, Opened, Taken, Single, Train}
use Rattle.receiver.specs.Frames.{Frame}
use Rattle.receiver.specs.Receiving.{Received, received_of, buffer_after}
use Rattle.receiver.specs.Shown.{shown_of}
use Rattle.trains.specs.Sequences.{Line, start, ◌▹◌, size, Request}
use Rattle.receiver.specs.Nodes.{Node}

-- the node and its buffer
pub record Held : Type 0 where
  pub node : Node
  pub buffer : List ℕ

-- what `receive` answers to a frame
abbrev pub answer : Held → Frame → Received
answer x f = received_of x.node x.buffer f.identifier f.bytes f.stamp

abbrev pub next : Held → Frame → Held
next x f = record { node = (answer x f).node; buffer = buffer_after x.node x.buffer f.identifier f.bytes f.stamp }

-- "offer it any sequence of frames while .. nobody else writes its buffer"
unfoldable pub offered : Held → Line → Held
offered x start = x
offered x (h ▹ f) = next (offered x h) f

-- the request that an outcome hands out, with the bytes that are shown at that moment
unfoldable pub handed : ℕ → Result Outcome Refusal → List ℕ → List ℕ → List Request
handed at (Err why) bytes buffer = []
handed at (Ok (OverLong from)) bytes buffer = []
handed at (Ok (Opened from)) bytes buffer = []
handed at (Ok (Taken from)) bytes buffer = []
handed at (Ok (Single from functional L)) bytes buffer = record { at = at; from = from; functional = functional; bytes = shown_of bytes buffer (Ok (Single from functional L)) } ∷ []
handed at (Ok (Train from L)) bytes buffer = record { at = at; from = from; functional = false; bytes = shown_of bytes buffer (Ok (Train from L)) } ∷ []

-- at the frame f behind h
unfoldable pub handed_at : Held → Line → Frame → List Request
handed_at x h f = handed (size h) (answer (offered x h) f).outcome f.bytes (offered x (h ▹ f)).buffer

-- on the whole sequence, the latest first
unfoldable pub requests : Held → Line → List Request
requests x start = []
requests x (h ▹ f) = handed_at x h f ++ requests x h
