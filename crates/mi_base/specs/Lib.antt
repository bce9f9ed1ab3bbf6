-- To be read in this order.
pub mod Lines
pub mod Base
pub mod Writes
pub mod Reads
pub mod Reader
