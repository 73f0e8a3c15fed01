pub mod Consumers
pub mod Messages
pub mod Shares
pub mod Commits
pub mod LogSteps
pub mod LogRows
pub mod Datagrams
pub mod Asked
pub mod Sizes
pub mod WorldSteps
pub mod WorldGaps
pub mod Behind
pub mod Room
pub mod Wired
pub mod ARun
pub mod Opens
pub mod Contents
pub mod Spent
pub mod StepsKept
mod Shorts
mod WorldRows
