pub mod Streams
mod Runs
mod Both
mod Committed
mod Tallies
mod Books
mod Copies
mod Several
mod WorldRows
mod SentRows
mod ArrivedRows
mod LifeRows
mod LawRows
mod TallyRows
