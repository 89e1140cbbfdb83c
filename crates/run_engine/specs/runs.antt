-- Runs, their parts on each link and for each actor, their merge, how many steps they have, and their laws.
pub mod Runs
pub mod Parts
pub mod Weave
pub mod Laws
pub mod Linked
pub mod Turns
