pub mod Holdings
pub mod Claimings
pub mod Endings
pub mod Lending
pub mod Passes
