-- To be read in this order.
pub mod Words
pub mod Source
pub mod Status
pub mod Buffer
pub mod Turns
pub mod Serving
pub mod Ending
