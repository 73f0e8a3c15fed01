pub mod Run
pub mod Ends
