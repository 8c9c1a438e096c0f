-- The crate's laws.
pub mod LawsLogs
pub mod LawsCuts
pub mod LawsTaken
pub mod Imported
pub mod Worked
pub mod LawsSummaries
