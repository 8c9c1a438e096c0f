-- The root of the crate's definitions.
pub mod Pieces
pub mod Listed
pub mod Mended
pub mod Mending
