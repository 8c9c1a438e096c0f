-- The root of the crate's definitions.
pub mod Positions
pub mod Routes
pub mod Fractions
pub mod Kinds
pub mod Readings
