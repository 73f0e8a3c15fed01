mod Rows
mod Meanings
mod Exact
pub mod Addresses
pub mod Cuts
pub mod Endings
