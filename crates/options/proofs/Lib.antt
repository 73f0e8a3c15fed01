mod Rows
pub mod Starts
pub mod Leading
