pub mod Beginnings
pub mod Ends
mod ArrivedRows
mod PatienceRows
mod BeginRows
mod TurnRows
pub mod Faults
pub mod Stopping
pub mod NewsLines
pub mod Sent
pub mod AllPublished
pub mod Whole
pub mod Many
pub mod WholeAlong
pub mod Written
pub mod Along
pub mod Numbered
pub mod Begun
pub mod Short
pub mod Shorts
pub mod Inputs
pub mod Offers
