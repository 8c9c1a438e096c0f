-- The crate's laws, which belong to no one function.
pub mod LawsRuns
pub mod LawsFound
pub mod LawsPairs
pub mod LawsWritten
pub mod WrittenLines
pub mod LawsLines
pub mod LawsScans
pub mod LawsForms
pub mod LawsBegins
pub mod ReadLines
pub mod LawsFronts
pub mod RoundTrip
pub mod Worked
