-- Laws of sequences and of a node that is offered one, and the theorems of demand 3.
pub mod LawsSequences
pub mod LawsFates
pub mod LawsViews
pub mod LawsOthers
pub mod LawsTracks
pub mod LawsCarried
pub mod LawsOwn
pub mod LawsReadBack
pub mod LawsSent
pub mod LawsRuns
pub mod Examples
pub mod Demand3
