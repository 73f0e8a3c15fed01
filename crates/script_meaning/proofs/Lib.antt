pub mod Counted
pub mod Honest
mod HonestRows
mod ReaderRows
mod WholeRows
pub mod InBounds
pub mod Lone
pub mod Numbers
pub mod OfferRuns
pub mod PollFollows
pub mod PollRuns
pub mod PolledPrefixes
pub mod Prints
pub mod Ranges
pub mod ReaderRuns
pub mod ReceiverRuns
pub mod Resends
pub mod Runs
pub mod Seen
pub mod SenderRuns
pub mod Sound
pub mod SoundLines
pub mod SoundReceivers
pub mod SoundSenders
pub mod Standings
pub mod Premises
mod HeadlineRows
