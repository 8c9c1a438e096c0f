-- Laws of an Option made a Result by the error that stands for none: what the answer says of the Option.
use mathlib.Core.Path.{◌≡◌, refl}
use Rattle.std.specs.Prelude.{Option, Some, None, Ok, Err}
use Rattle.std.specs.Option.{ok_or}

pub none-refused : {A E : Type 0} (v : Option A) (e why : E) → ok_or v e ≡ Err why → (v ≡ None) × (why ≡ e)
none-refused None e why h = (refl, cc)
none-refused (Some x) e why h = cc

pub some-given : {A E : Type 0} (v : Option A) (e : E) (x : A) → ok_or v e ≡ Ok x → v ≡ Some x
some-given None e x h = cc
some-given (Some y) e x h = cc
