pub mod Answers
pub mod Bounds
pub mod LineContents
pub mod Output
pub mod Published
pub mod ScriptState
pub mod Standing
pub mod Premises
