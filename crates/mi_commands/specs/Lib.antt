-- To be read in this order.
pub mod Asked
pub mod Holder
pub mod Performed
pub mod Told
pub mod Answer
pub mod Acts
pub mod Undone
pub mod Alone
