mod Spelled
mod Honest
mod Standing
pub mod Living
mod Both
pub mod Moments
pub mod StreamRows
pub mod StreamLiving
mod StreamLifeRows
