-- The root of the crate's definitions.
pub mod Logs
pub mod Summaries
pub mod Lines
pub mod Imports
