-- Choices by a test: definitions whose cases stand in an order are made of these.
use Rattle.std.specs.Prelude.{Bool, true, false}

-- the first where the test holds, else the second
unfoldable pub pick : {A : Type 0} → Bool → A → A → A
pick true a b = a
pick false a b = b

-- the first unless the test holds, then the second
abbrev pub unless : {A : Type 0} → Bool → A → A → A
unless test a b = pick test b a

unfoldable pub both : Bool → Bool → Bool
both true b = b
both false b = false

unfoldable pub either : Bool → Bool → Bool
either true b = true
either false b = b
