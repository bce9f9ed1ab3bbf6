pub mod Reshaped
pub mod Catalogs
pub mod Examples
