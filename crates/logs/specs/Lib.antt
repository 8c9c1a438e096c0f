-- The root of the crate's definitions.
pub mod Grammar
pub mod Outcomes
pub mod Parts
pub mod Lines
pub mod Scans
pub mod Fronts
pub mod Written
