pub mod Calls
pub mod Devices
pub mod Failing
pub mod Fans
pub mod Memory
pub mod Texts
pub mod Udp
