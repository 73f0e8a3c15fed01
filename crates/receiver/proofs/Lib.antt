pub mod Alone
pub mod Joins
pub mod Meeting
pub mod Named
pub mod PollFrames
pub mod Polled
pub mod Heard
pub mod ReadOn
pub mod Rooms
pub mod Seated
pub mod Shown
pub mod Units
mod TickRows
pub mod Together
pub mod Lived
