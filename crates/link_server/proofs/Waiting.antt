-- The packets that wait for the link: the line, and which of them goes first; and those here by arrival.
pub mod Arrived
pub mod Best
pub mod Serving
pub mod Rising
pub mod Order
pub mod Next
pub mod Queues
pub mod Keys
pub mod Due
pub mod First
