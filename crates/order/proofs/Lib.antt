-- The crate's laws, which belong to no one function.
pub mod LawsEach
pub mod LawsKeep
pub mod LawsMapped
pub mod LawsBits
pub mod LawsSplit
pub mod LawsTimes
pub mod LawsPlaces
pub mod LawsOrdered
pub mod RankedPlaces
