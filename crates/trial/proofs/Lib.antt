-- The program's laws, which belong to no one function.
pub mod LawsCounts
pub mod LawsTrial
