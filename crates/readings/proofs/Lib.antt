-- The crate's laws, which belong to no one function.
pub mod LawsPositions
pub mod LawsFormula
pub mod LawsRoutes
pub mod LawsAnswers
pub mod LawsFractions
pub mod LawsWholes
pub mod LawsOutcomes
pub mod LawsReadings
pub mod LawsReserved
