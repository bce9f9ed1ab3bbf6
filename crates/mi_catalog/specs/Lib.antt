pub mod Shape
pub mod Kinds
pub mod Key
pub mod Fits
pub mod Fitting
pub mod Rules
pub mod Accounts
