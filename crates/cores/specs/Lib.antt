pub mod Numbers
pub mod Rooms
pub mod Departures
pub mod Subscribers
pub mod Subscribing
pub mod Senders
pub mod Sending
pub mod Messages
