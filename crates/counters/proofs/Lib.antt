pub mod Passes
pub mod Moves
mod Rows
