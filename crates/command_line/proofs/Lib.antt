pub mod CommandLineLemmas
pub mod DecodeLines
pub mod TakenLines
pub mod RunMet
mod RunRows
pub mod NumberTexts
pub mod Numbers
pub mod Faults
pub mod Simple
mod Words
