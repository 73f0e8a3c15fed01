pub mod Stays
pub mod Outcomes
pub mod Plain
pub mod Agreements
