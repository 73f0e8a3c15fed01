pub mod Faults
pub mod Percentiles
pub mod Stamps
pub mod Followers
pub mod Beginnings
