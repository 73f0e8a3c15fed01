pub mod Fault
pub mod Gaps
pub mod Heads
pub mod Openings
pub mod Words
pub mod Contents
