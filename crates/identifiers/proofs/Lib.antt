-- The crate's laws, which belong to no one function and which upper crates cite.
pub mod LawsChoice
pub mod LawsOptions
pub mod LawsBelow
pub mod LawsBytes
pub mod LawsParts
pub mod LawsRefusals
pub mod LawsIdentifiers
pub mod LawsInverse
pub mod LawsReserved
