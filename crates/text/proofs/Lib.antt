-- The crate's laws, which belong to no one function.
pub mod LawsValue
pub mod LawsDigits
pub mod LawsPutting
pub mod LawsReading
pub mod Texts
pub mod Worked
