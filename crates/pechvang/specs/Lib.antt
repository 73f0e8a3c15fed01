pub mod Owned
pub mod Answers
pub mod Opening
pub mod Publishing
pub mod Reading
pub mod Keeping
pub mod Ends
pub mod Messages
