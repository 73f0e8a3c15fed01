pub mod Lasts
pub mod Memory
pub mod Owners
pub mod Rights
pub mod Steps
pub mod Threads
pub mod Pools
