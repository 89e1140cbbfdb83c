-- From one hop to the next.
pub mod HopStep
