pub mod NewsLemmas
pub mod PackingLemmas
pub mod SendLemmas
pub mod StartLemmas
pub mod FreshLemmas
pub mod NextLemmas
pub mod AgainLemmas
pub mod DueLemmas
pub mod CycleLemmas
mod CycleRows
pub mod Resending
