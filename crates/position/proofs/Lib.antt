pub mod Heads
pub mod Numbers
pub mod Wordings
pub mod Contents
pub mod Fields
mod WordRows
