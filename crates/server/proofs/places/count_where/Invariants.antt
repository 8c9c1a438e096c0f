-- What the loop of `count_where` keeps true: the count so far is that of the places passed.
use mathlib.Core.Path.{◌≡◌}
use mathlib.Core.Bool.{Bool}
use Prim.Native.Nat.{ℕ, ◌≤◌, ◌<◌}
use Rattle.identifiers.specs.Below.{count_below}
use Rattle.server.proofs.places.count_where.Given as goal

abbrev pub invariant-loop-i : goal.invariant-loop-i
invariant-loop-i g l = (l.count ≤ l.i) × ((p : ℕ → Bool) → ((i : ℕ) (b : Bool) → i < l.n → goal.F-post g l.has i b → b ≡ p i) → l.count ≡ count_below p l.i)
