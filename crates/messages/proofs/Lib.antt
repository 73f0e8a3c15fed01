pub mod Parts
mod Rows
pub mod Taking
pub mod Shown
mod Readings
