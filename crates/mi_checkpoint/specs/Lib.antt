-- To be read in this order.
pub mod Settled
pub mod OpenStarts
pub mod Examples
