-- The theorem, which belongs to no function.
pub mod Demand3Host
