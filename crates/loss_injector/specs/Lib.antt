pub mod Injecting
pub mod Texts
pub mod Verdicts
pub mod Losing
pub mod Metering
pub mod Ways
