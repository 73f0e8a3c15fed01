pub mod FailingLemmas
pub mod FanLemmas
