pub mod SourceSteps
pub mod DelaySteps
pub mod PromiseSteps
pub mod RowSteps
