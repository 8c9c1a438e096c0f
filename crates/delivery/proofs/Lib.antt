-- Laws of hands and arrivals, worked numbers, and the theorems of delivery.
pub mod LawsTaken
pub mod LawsRoutesAt
pub mod LawsSides
pub mod LawsHands
pub mod LawsNeighbours
pub mod LawsCircle
pub mod LawsComes
pub mod LawsTwice
pub mod LawsUnkept
pub mod LawsDelivers
pub mod Examples
pub mod Delivered
