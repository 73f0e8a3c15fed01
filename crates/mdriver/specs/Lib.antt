pub mod Ledgers
pub mod Faults
