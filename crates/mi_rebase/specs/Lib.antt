-- To be read in this order, behind those of mi_recovery and mi_base.
pub mod Images
pub mod Rebase
