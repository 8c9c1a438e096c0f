-- The root of the crate's definitions.
pub mod Counting
