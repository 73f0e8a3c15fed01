mod Resting
mod Works
mod Picked
mod Heads
mod Read
mod Cleaned
mod Together
pub mod Looking
pub mod Finding
pub mod Sourced
mod Whole
pub mod Told
mod Stepping
mod Sweeping
pub mod Joined
mod Limits
mod Dealt
mod Shares
mod Owned
mod Gathered
mod Holding
mod Cleaning
mod Filling
