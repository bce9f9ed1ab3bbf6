-- To be read in this order.
pub mod Noted
pub mod Front
pub mod Closed
