-- The root of the crate's definitions.
pub mod Sequences
pub mod Runs
pub mod Terms
pub mod Demands
