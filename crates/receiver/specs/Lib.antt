-- The root of the crate's definitions.
pub mod Receptions
pub mod Nodes
pub mod Addressings
pub mod Frames
pub mod Wire
pub mod Outcomes
pub mod Steps
pub mod Receiving
pub mod Lent
pub mod Names
pub mod Shown
pub mod Cuts
pub mod Changes
