pub mod Group
pub mod Laws
pub mod Stream
pub mod Unicast
