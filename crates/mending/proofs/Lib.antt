-- The crate's laws, which belong to no one function.
pub mod LawsWalk
pub mod LawsPieces
pub mod LawsWalked
pub mod LawsKept
pub mod LawsListed
pub mod LawsLeft
pub mod LawsGoing
pub mod LawsMended
pub mod MendedSheet
pub mod LawsTexts
pub mod Examples
pub mod CutCount
