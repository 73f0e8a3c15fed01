pub mod Ascending
pub mod Due
pub mod Noted
pub mod Near
pub mod Ranges
