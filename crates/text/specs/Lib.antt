-- The root of the crate's definitions.
pub mod Digits
pub mod Putting
pub mod Reading
