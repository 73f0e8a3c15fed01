pub mod Screened
pub mod Alone
mod Rows
pub mod Farewells
pub mod Refused
pub mod Numbered
pub mod Passing
pub mod Called
