-- The root of the program's definitions.
pub mod Trial
