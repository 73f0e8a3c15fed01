pub mod Ran
pub mod Ended
pub mod Taken
pub mod WrittenLines
pub mod LineStatuses
mod BoundRows
pub mod PrintedLines
pub mod Routes
pub mod DecodedLines
