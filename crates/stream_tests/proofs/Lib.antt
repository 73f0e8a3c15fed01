pub mod Each
pub mod Unread
