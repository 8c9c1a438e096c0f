-- The crate's laws, which belong to no one function.
pub mod LawsStanding
pub mod LawsMoved
pub mod LawsSummary
pub mod LawsTaking
pub mod LawsEnds
pub mod LawsRead
