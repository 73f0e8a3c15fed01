pub mod Commands
pub mod Hands
pub mod Rule
pub mod Parties
