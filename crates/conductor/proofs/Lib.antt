pub mod Seats
pub mod Submitting
pub mod Moves
pub mod Rows
pub mod Firsts
