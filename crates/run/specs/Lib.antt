pub mod Outcomes
pub mod Beginnings
pub mod Threads
pub mod Doings
pub mod Streams
