pub mod Forms
pub mod Blocks
pub mod Inputs
pub mod Texts
pub mod Shown
pub mod Fused
pub mod Readings
