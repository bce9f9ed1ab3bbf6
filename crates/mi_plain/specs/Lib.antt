pub mod Boundary
pub mod Rows
