pub mod Labels
pub mod Rows
pub mod Shown
