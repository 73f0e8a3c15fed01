pub mod Living
pub mod NewRunLogs
pub mod Numbers
pub mod Orders
pub mod Publishing
pub mod OfARun
pub mod Seeds
pub mod Polling
