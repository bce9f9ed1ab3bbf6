-- To be read in this order, behind those of mi_recovery.
pub mod Link
pub mod Overflow
pub mod Turns
pub mod Events
pub mod Words
pub mod Status
pub mod SchemaSource
pub mod Served
pub mod Moved
