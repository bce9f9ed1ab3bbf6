-- To be read in this order.
pub mod Kept
pub mod DeviceLog
pub mod Placed
pub mod Room
pub mod MemoryDevice
pub mod LogLines
pub mod Header
