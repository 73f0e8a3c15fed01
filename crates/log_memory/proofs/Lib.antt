pub mod Rows
pub mod Places
pub mod Facts
pub mod Resting
pub mod Lifting
pub mod Adding
pub mod Claiming
pub mod Storing
pub mod Committing
pub mod Reading
pub mod Looking
pub mod Freeing
pub mod Giving
pub mod Keeping
pub mod Publishing
pub mod Cleaning
pub mod Beginning
pub mod Dealing
pub mod Seating
pub mod Rounds
pub mod Parts
pub mod Kept
mod HeadPlaces
mod Openings
mod Turns
mod UnitPlaces
mod Frees
mod Drafted
mod OpenRooms
mod OpenFrames
pub mod Parking
pub mod ClaimRooms
pub mod Looked
mod Swapping
