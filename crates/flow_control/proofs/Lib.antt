pub mod Enough
pub mod Falls
pub mod Silent
