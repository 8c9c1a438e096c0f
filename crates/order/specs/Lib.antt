-- The root of the crate's definitions.
pub mod Order
pub mod Splits
pub mod Ranks
