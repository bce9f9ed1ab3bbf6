-- To be read in this order.
pub mod SchemaText
pub mod ServiceLines
pub mod Steps
pub mod Lines
pub mod Heard
pub mod Input
pub mod Output
pub mod Stream
pub mod Client
pub mod Status
pub mod Clients
pub mod Silence
pub mod Ending
pub mod Beside
pub mod Laws
