pub mod Defaults
pub mod Plans
pub mod Ranges
pub mod Texts
