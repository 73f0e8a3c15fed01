pub mod Assembling
pub mod Codes
pub mod Hearing
