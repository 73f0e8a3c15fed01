pub mod Closing
pub mod Counting
mod EndingRows
pub mod Receivers
mod Streams
