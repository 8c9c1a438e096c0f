-- The root of the crate's definitions.
pub mod Hands
pub mod Delivery
