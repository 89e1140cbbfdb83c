-- Numbers of actors and links in any order, and the seats that carry them.
pub mod NumbersFromZero
pub mod LinkNumbers
pub mod ActorOrder
pub mod PermutedLists
pub mod NumberOrder
pub mod SeatsJoined
