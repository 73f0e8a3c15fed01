pub mod Order
pub mod Hands
pub mod Rule
pub mod Parties
