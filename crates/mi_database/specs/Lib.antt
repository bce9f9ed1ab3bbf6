pub mod Journal
pub mod Most
pub mod LinkedData
pub mod Keyed
pub mod Kept
pub mod Bound
pub mod Restored
