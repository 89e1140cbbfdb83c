pub mod runs
pub mod channels
pub mod replies
pub mod schedules
