pub mod Identity
pub mod Owned
pub mod Lent
pub mod Pooled
