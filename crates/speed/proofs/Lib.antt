pub mod Messages
pub mod Lanes
pub mod Books
pub mod Followers
pub mod Limits
pub mod Laps
