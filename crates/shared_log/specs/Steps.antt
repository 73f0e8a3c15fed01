pub mod Handles
pub mod Leading
pub mod Rests
pub mod Drafts
pub mod Readers
pub mod Keepers
pub mod Seats
pub mod Meets
