pub mod Parties
pub mod Consumers
