pub mod Moved
pub mod Following
pub mod Meeting
pub mod Polled
pub mod Whole
pub mod OfCore
