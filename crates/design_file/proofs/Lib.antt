pub mod ListSteps
pub mod LinksOneByOne
pub mod RequestsOneByOne
pub mod DesignIsPlan
pub mod OpenedSoFar
