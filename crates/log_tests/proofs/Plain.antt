pub mod Rows
pub mod Growing
pub mod Ending
pub mod Parts
pub mod Opening
pub mod Agreements
