-- The crate's laws.
pub mod LawsTables
