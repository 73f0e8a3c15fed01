pub mod Figures
pub mod Laps
pub mod Rounds
pub mod Rows
