-- The root of the crate's definitions.
pub mod Choice
pub mod Below
pub mod Bytes
pub mod Refusals
pub mod Answers
pub mod Identifiers
