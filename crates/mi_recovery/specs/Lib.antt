-- To be read in this order, behind those of mi_clients.
pub mod JournalFile
pub mod Device
pub mod Recovery
pub mod Names
pub mod Segments
pub mod Fingerprint
