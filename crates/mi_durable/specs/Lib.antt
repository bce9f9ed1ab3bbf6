-- To be read in this order.
pub mod HeldReplies
pub mod Journals
pub mod Durable
pub mod Replay
pub mod Room
