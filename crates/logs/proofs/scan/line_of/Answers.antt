-- `line_of` meets its contract: one test after the other, as in the definition.
use mathlib.Core.Path.{refl, sym, ap, ◌∙◌}
use Prim.Native.Nat.{ℕ, ◌^◌}
use borrow.Author.Tests.{le-leb, lt-leb}
use Rattle.std.specs.Prelude.{Option}
use Rattle.identifiers.proofs.LawsChoice.{taken, passed}
use Rattle.logs.specs.Scans.{name_reads}
use Rattle.logs.proofs.scan.line_of.Goals as goal

pub returns-then-identifier-ge-TOO_LARGE : goal.returns-then-identifier-ge-TOO_LARGE
returns-then-identifier-ge-TOO_LARGE c =
    taken _ (le-leb (2 ^ 29) c.in-Some.identifier c.if-identifier-ge-TOO_LARGE.true) refl ∙ ap (λ (n : Option ℕ). name_reads n c.args.stamp c.args.«data») (sym c.in-Some.is)

pub returns : goal.returns
returns c =
    passed _ (lt-leb (2 ^ 29) c.in-Some.identifier c.if-identifier-ge-TOO_LARGE.false) refl ∙ ap (λ (n : Option ℕ). name_reads n c.args.stamp c.args.«data») (sym c.in-Some.is)
