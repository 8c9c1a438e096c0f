-- The crate's laws, which belong to no one function.
pub mod LawsLine
pub mod LawsWithin
