pub mod Codes
pub mod Parts
pub mod Shapes
pub mod Publishing
pub mod Claiming
pub mod Reading
pub mod Keeping
pub mod Opening
