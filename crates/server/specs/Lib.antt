-- The root of the crate's definitions.
pub mod Mask
pub mod Places
pub mod Trailer
pub mod Rules
pub mod Faults
pub mod Severity
pub mod DataIdentifiers
pub mod Requests
pub mod Silence
pub mod Forms
pub mod Server
pub mod Codes
pub mod Negatives
pub mod Status
pub mod Told
