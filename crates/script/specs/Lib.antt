pub mod Fault
pub mod Language
pub mod Meaning
pub mod Pieces
pub mod Reading
pub mod Rests
pub mod Values
