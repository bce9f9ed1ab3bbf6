pub mod Frame
pub mod Listed
pub mod Named
pub mod Order
