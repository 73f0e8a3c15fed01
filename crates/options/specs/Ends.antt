pub mod Plans
pub mod Texts
pub mod Ids
pub mod Ways
