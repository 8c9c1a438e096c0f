-- The list, which belongs to no function.
pub mod Worked
