mod Boxed
pub mod Rests
pub mod Halves
pub mod Eights
pub mod Handed
mod Newcomers
pub mod Openers
