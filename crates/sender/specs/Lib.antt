pub mod Cycling
pub mod FirstNews
pub mod Giving
pub mod Naming
pub mod Packed
pub mod Sending
pub mod Texts
pub mod Resending
