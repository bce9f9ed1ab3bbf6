pub mod Standing
pub mod Places
pub mod Indexed
pub mod Pass
pub mod PassSteps
pub mod Passes
pub mod Rekeying
pub mod Inserting
pub mod Keeping
pub mod Looks
pub mod Opened
pub mod Walks
pub mod Ranges
-- How indexes see records.
pub use Rattle.mi_order.specs.Orders
