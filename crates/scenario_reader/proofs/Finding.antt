-- Names, nodes and links by their places, and routes between two nodes.
pub mod NameLookup
pub mod NamedByPlace
pub mod NodesByNumber
pub mod NodeSteps
pub mod FoundNodes
pub mod LeastRoutes
pub mod HopsInCells
pub mod NumbersInCells
pub mod ShapeOfNumbers
