pub mod Chained
pub mod Frame
pub mod Groups
pub mod Heads
pub mod Keying
pub mod Moves
pub mod Places
