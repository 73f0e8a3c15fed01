pub mod Each
pub mod Along
pub mod Shares
pub mod Openings
pub mod Windows
pub mod Calling
pub mod Choices
pub mod Seated
pub mod Repeaters
mod Repeated
mod BehindRows
mod CutRows
pub mod Due
pub mod Ends
pub mod Parties
pub mod Writing
pub mod Written
pub mod Patience
pub mod Faults
pub mod Given
pub mod Lived
pub mod Placed
pub mod Alone
pub mod Leaving
pub mod Farewells
pub mod Told
pub mod Breaking
pub mod Answered
pub mod Looked
pub mod Chosen
pub mod Kept
pub mod Called
pub mod Lost
pub mod EndRows
pub mod TurnRows
mod FollowedRows
pub mod PlaceRows
pub mod Reading
pub mod Taken
pub mod Settled
pub mod Turned
pub mod Rounds
pub mod Apart
