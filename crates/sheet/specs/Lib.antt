-- The root of the crate's definitions.
pub mod Fields
pub mod Sheets
pub mod Readings
pub mod Basis
pub mod Leading
pub mod Text
pub mod Printed
pub mod Ranked
pub mod Standing
pub mod Pages
