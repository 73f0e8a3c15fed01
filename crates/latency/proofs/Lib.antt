pub mod Shares
pub mod Stamped
pub mod NewReaders
