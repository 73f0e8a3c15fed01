pub mod Books
pub mod Simulated
pub mod LineTexts
pub mod Lines
pub mod Packed
pub mod Reading
pub mod Runs
