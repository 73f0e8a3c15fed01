pub mod Passes
pub mod OtherPasses
