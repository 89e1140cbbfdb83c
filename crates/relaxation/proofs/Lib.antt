mod HopAllotment
pub mod SlackShares
pub mod RouteAllotment
