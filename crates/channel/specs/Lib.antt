pub mod Bytes
pub mod Hosts
pub mod Values
pub mod Settings
pub mod Channels
pub mod Texts
