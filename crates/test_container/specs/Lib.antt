pub mod Undone
pub mod Journaled
