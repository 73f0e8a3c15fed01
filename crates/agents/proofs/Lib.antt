pub mod Carrying
pub mod Hearings
pub mod Cycling
pub mod Answered
pub mod Heard
pub mod Rounds
pub mod Runs
pub mod Images
pub mod Reaching
pub mod NewSenders
mod ReplyRows
pub mod NewPublishers
